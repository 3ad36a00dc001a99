-- `entries` meets its contract: entry after entry, and a newline.
use mathlib.Core.Path.{◌≡◌}
use native.Mathlib.Omega.{arith}
use lib.ListN.{take}
use lib.Seq.{take_all}
use borrow.Author.Rules.{rules}
use Rattle.decimal.proofs.Laying.{laid_both}
use Rattle.report.specs.Report.{spaced}
use Rattle.report.proofs.Lines.{entries_next}
use Rattle.report.proofs.Slots.{slots_end}
use Rattle.report.proofs.lay.entries.Goals as goal

pub loop-b-preserved : goal.loop-b-preserved
loop-b-preserved c =
    let l = c.loop-b in
    let e = entries_next spaced c.args.slots.now l.b-index (search rules) in
    rw e (laid_both (omega (arith, c.well_formed)) l.invariant c.slot-next.ensures)

pub returns : goal.returns
returns c =
    let l = c.loop-b in
    let e : take l.b-index c.args.slots.now ≡ c.args.slots.now = take_all l.b-index c.args.slots.now (omega arith) in
    rw (e, slots_end) at (laid_both (omega (arith, c.well_formed)) l.invariant c.byte.ensures)
