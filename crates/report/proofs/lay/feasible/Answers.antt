-- `feasible` meets its contract: line after line.
use mathlib.Core.Path.{◌≡◌, ◌∙◌, ap}
use Prim.Native.Nat.{ℕ, ◌+◌, ◌≤◌}
use native.Mathlib.Omega.{arith}
use lib.ListN.{length, take}
use Rattle.decimal.specs.Bytes.{bytes}
use Rattle.task.specs.Limits.{largest}
use Rattle.decimal.proofs.Laying.{page_both, page_as}
use Rattle.report.specs.Report.{table}
use Rattle.report.proofs.Lines.{line_one, line_two}
use Rattle.report.proofs.Slots.{take_cut}
use Rattle.report.proofs.lay.feasible.Goals as goal

pub returns : goal.returns
returns c =
    let q = c.args.plan in
    let small : length c.args.page.now.out.now ≤ largest = omega arith in
    let cut : take c.saturating_add-lead.result c.args.startup.now ≡ take (q.latest + q.hyperperiod) c.args.startup.now =
    ap (λ (k : ℕ). take k c.args.startup.now) c.saturating_add-lead.ensures ∙ take_cut c.args.startup.now (q.latest + q.hyperperiod) (omega (arith, c.well_formed)) in
    let hyperperiod = page_as (line_one (bytes "hyperperiod") q.hyperperiod) c.line.ensures in
    let load = page_as (line_one (bytes "load") q.load) c.line-2.ensures in
    let idle = page_as (line_two (bytes "idle") q.startup_idle q.cycle_idle) c.line-3.ensures in
    let preemptions = page_as (line_two (bytes "preemptions") q.startup_preemptions q.cycle_preemptions) c.line-4.ensures in
    let first = page_as (ap (table (bytes "first")) (c.beginning.ensures ∙ cut)) c.table.ensures in
    let again = page_as (ap (table (bytes "again")) c.beginning-2.ensures) c.table-2.ensures in
    page_both small (page_both small (page_both small (page_both small (page_both small (page_both small
    c.word.ensures hyperperiod) load) idle) preemptions) first) again
