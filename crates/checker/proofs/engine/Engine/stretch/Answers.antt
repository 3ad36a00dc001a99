-- `stretch` meets its contract: the slots of the entries so far are given.
use mathlib.Core.Path.{◌≡◌}
use native.Mathlib.Omega.{arith}
use lib.ListN.{length}
use Rattle.std.proofs.lemmas.Result.{err_from_is_err_and}
use Rattle.state.proofs.Stretching.{given_start, idle_few, switches_few, given_next, stretched, cut_off}
use Rattle.checker.proofs.engine.Engine.stretch.Goals as goal

pub loop-entry-init : goal.loop-entry-init
loop-entry-init c = record {
  found = record { below = c.requires.instant.below; is = rw (c.requires.counts.0, c.requires.counts.1) (given_start c.requires.instant.is) };
  reached = omega arith;
}

pub step-requires-clause-bounds : goal.step-requires-clause-bounds
step-requires-clause-bounds c =
    let g = c.loop-entry.invariant.found.is in
    (omega (arith, c.loop-entry.invariant.reached, c.requires.room), omega (arith, idle_few g, c.requires.room), omega (arith, switches_few g, c.requires.room))

pub returns-in_err-now : goal.returns-in_err-now
returns-in_err-now c =
    let p = err_from_is_err_and c.from_residual.result c.from_residual.ensures.1 in
    let at = c.loop-entry.invariant.reached in
    let s = c.in_err-now.ensures.slot in
    rw (p.1, p.2)
    (cut_off c.loop-entry.invariant.found.is c.loop-entry-test.true (rw at at c.in_err-now.ensures.written) c.loop-entry-test.true (omega (arith, s.1)) s.0)

pub loop-entry-preserved : goal.loop-entry-preserved
loop-entry-preserved c =
    let at = c.loop-entry.invariant.reached in
    let s = c.in_ok-now.ensures.slot in
    record {
      found = record {
        below = s.0.below;
        is = given_next c.loop-entry.invariant.found.is c.loop-entry-test.true (rw at at c.in_ok-now.ensures.written) (rw at at s.0.is);
      };
      reached = omega (arith, s.1);
    }

pub returns : goal.returns
returns c =
    let i : c.loop-entry.entry-index ≡ length c.args.table.now = omega arith in
    let v = c.loop-entry.invariant in
    (record { below = v.found.below; is = rw i at (stretched v.found.is) }, omega (arith, v.reached))
