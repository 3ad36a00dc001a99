-- `tables` meets its contract: two stretches of slots lead to the plan, or to the first miss.
use native.Mathlib.Nat.{zero-add}
use native.Mathlib.Omega.{arith}
use Rattle.std.proofs.lemmas.Result.{err_from_is_err_and}
use Rattle.state.proofs.Verdict.{small, startup_fits, cycle_fits, missed_first, missed_later, never_missed}
use Rattle.checker.proofs.engine.Engine.tables.Goals as goal

pub startup_part-requires-clause-room : goal.startup_part-requires-clause-room
startup_part-requires-clause-room c = let R = c.requires.ready in (omega (arith, small R), startup_fits R)

pub cycle_part-requires-clause-instant : goal.cycle_part-requires-clause-instant
cycle_part-requires-clause-instant c =
    let s = c.in_ok-first.ensures in
    record { below = s.0.below; is = rw s.1 (rw zero-add at s.0.is.goes_on) }

pub cycle_part-requires-clause-room : goal.cycle_part-requires-clause-room
cycle_part-requires-clause-room c = let R = c.requires.ready in (omega (arith, small R, c.in_ok-first.ensures.1), cycle_fits R)

pub returns-in_err-first : goal.returns-in_err-first
returns-in_err-first c =
    let e = err_from_is_err_and c.from_residual.result c.from_residual.ensures.1 in
    rw (e.1, e.2) (missed_first c.requires.ready c.in_err-first.ensures)

pub returns-in_err-again : goal.returns-in_err-again
returns-in_err-again c =
    let e = err_from_is_err_and c.from_residual-in_err-again.result c.from_residual-in_err-again.ensures.1 in
    let s = c.in_ok-first.ensures in
    rw (e.1, e.2) (missed_later c.requires.ready s.0.is (rw s.1 at c.in_err-again.ensures))

pub returns : goal.returns
returns c =
    let s = c.in_ok-first.ensures in
    never_missed c.requires.ready s.0.is (rw s.1 at c.in_ok-again.ensures.is)
