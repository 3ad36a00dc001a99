-- `tasks` meets its contract: line after line, with the tasks so far in the array.
use Rattle.std.proofs.Common.{arith, rules, tests, sym, ap, ◌≡◌, ◌∙◌, ◌+◌, Err}
use Rattle.std.proofs.lemmas.List.{nil_from_length}
use Rattle.text.specs.Held.{held}
use Rattle.text.proofs.Reading.{begun, piece, ends_with, ends_without, one_more, tasks_torn, piece_not}
use Rattle.text.proofs.tasks.Goals as goal

pub loop-i-init : goal.loop-i-init
loop-i-init c = begun _ _ _ _ _ _ _ (search rules) (search rules) c.none-tasks.ensures

pub loop-i-preserved : goal.loop-i-preserved
loop-i-preserved c =
    let next = piece (λ x b q k. search (rules, tests)) c.in-Some.ensures.steps.0 in
    let whole = ends_with c.in-Some.line.now c.strip_suffix.result c.strip_suffix.ensures.cases c.in_ok-line.line c.in_ok-line.ensures.ok_part in
    let counted = c.in-Some.ensures.steps.2 in
    one_more c.loop-i.invariant (omega (arith, c.well_formed)) next c.in_ok-line.line.now whole c.in_ok-task.task (sym c.in_ok-task.ensures.ok_part ∙ c.task_of.ensures)
    c.with-tasks.result c.with-tasks.ensures (omega (arith, counted))

pub returns-in_err-line : goal.returns-in_err-line
returns-in_err-line c =
    let l = c.loop-i in
    let x = c.args in
    let torn = ends_without c.in-Some.line.now c.strip_suffix.result c.strip_suffix.ensures.cases c.in_err-line.ensures.ok_part in
    let said : c.from_residual.result ≡ Err (record { line = x.first + c.in-Some.i }) = search rules in
    rw c.in-Some.ensures.steps.1 at said
    ∙ sym (ap held (l.invariant.goes_on ∙ tasks_torn x.card x.policy l.invariant.so_far _ _ _ _ (piece (λ x b q k. search (rules, tests)) c.in-Some.ensures.steps.0) torn))

pub returns-in_err-task : goal.returns-in_err-task
returns-in_err-task c =
    let l = c.loop-i in
    let x = c.args in
    let next = piece (λ x b q k. search (rules, tests)) c.in-Some.ensures.steps.0 in
    let whole = ends_with c.in-Some.line.now c.strip_suffix.result c.strip_suffix.ensures.cases c.in_ok-line.line c.in_ok-line.ensures.ok_part in
    let said : c.from_residual-in_err-task.result ≡ Err (record { line = x.first + c.in-Some.i }) = search rules in
    rw c.in-Some.ensures.steps.1 at said
    ∙ sym (ap held (l.invariant.goes_on ∙ piece_not x.card x.policy l.invariant.so_far _ _ _ _ next _ whole (sym c.in_err-task.ensures.ok_part ∙ c.task_of.ensures)))

-- nothing is left
pub returns : goal.returns
returns c =
    let l = c.loop-i in
    let end = nil_from_length _ c.in-None.ensures.steps.0.0 in
    rw (l.invariant.held, l.invariant.goes_on, end)
