-- `task_of` meets its contract: the word, then field after field.
use mathlib.Core.Path.{sym, ◌∙◌, ap}
use native.Mathlib.Omega.{arith}
use Rattle.std.specs.Prelude.{Some, length, ◌≤◌, ◌<◌}
use Rattle.decimal.specs.Bytes.{space}
use Rattle.line.proofs.Places.{until_taken}
use Rattle.line.proofs.Fields.{line_not, no_offset, no_run, no_deadline, no_period, period_read, last_none, last_more}
use Rattle.line.proofs.task_of.Goals as goal

pub slice_bounds-same-end : goal.slice_bounds-same-end
slice_bounds-same-end c = until_taken space c.before-word.result c.args.line.now c.before-word.ensures

pub returns-then-not-same : goal.returns-then-not-same
returns-then-not-same c =
    sym (line_not c.args.line.now c.before-word.result c.before-word.ensures (sym c.same.ensures ∙ c.if-not-same.true))

pub returns-in_err-offset : goal.returns-in_err-offset
returns-in_err-offset c =
    let task = sym c.same.ensures ∙ c.if-not-same.false in
    c.from_residual.ensures ∙ sym (no_offset c.args.line.now _ c.before-word.ensures task c.in_err-offset.ensures)

pub returns-in_err-run : goal.returns-in_err-run
returns-in_err-run c =
    let task = sym c.same.ensures ∙ c.if-not-same.false in
    c.from_residual-in_err-run.ensures
    ∙ sym (no_run c.args.line.now _ c.before-word.ensures task _ c.in_ok-offset.ensures c.in_err-run.ensures)

pub returns-in_err-deadline : goal.returns-in_err-deadline
returns-in_err-deadline c =
    let task = sym c.same.ensures ∙ c.if-not-same.false in
    c.from_residual-in_err-deadline.ensures
    ∙ sym (no_deadline c.args.line.now _ c.before-word.ensures task _ c.in_ok-offset.ensures _ c.in_ok-run.ensures c.in_err-deadline.ensures)

pub returns-in_err-period : goal.returns-in_err-period
returns-in_err-period c =
    let task = sym c.same.ensures ∙ c.if-not-same.false in
    c.from_residual-in_err-period.ensures
    ∙ sym (no_period c.args.line.now _ c.before-word.ensures task _ c.in_ok-offset.ensures _ c.in_ok-run.ensures _ c.in_ok-deadline.ensures
    c.in_err-period.ensures)

pub returns-then-period-line : goal.returns-then-period-line
returns-then-period-line c =
    let line = c.args.line.now in
    let task = sym c.same.ensures ∙ c.if-not-same.false in
    let q = period_read line _ c.before-word.ensures task _ c.in_ok-offset.ensures _ c.in_ok-run.ensures _ c.in_ok-deadline.ensures
    _ c.in_ok-period.ensures in
    let more : c.in_ok-period.period.end < length line = omega arith in
    sym (q ∙ last_more _ _ _ more)

pub returns : goal.returns
returns c =
    let line = c.args.line.now in
    let task = sym c.same.ensures ∙ c.if-not-same.false in
    let q = period_read line _ c.before-word.ensures task _ c.in_ok-offset.ensures _ c.in_ok-run.ensures _ c.in_ok-deadline.ensures
    _ c.in_ok-period.ensures in
    let no_more : length line ≤ c.in_ok-period.period.end = omega arith in
    ap Some c.new.ensures ∙ sym (q ∙ last_none _ _ _ no_more)
