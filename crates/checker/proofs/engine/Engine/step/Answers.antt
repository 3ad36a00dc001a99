-- `step` meets its contract: what its parts find is what the laws of one slot ask for.
use mathlib.Core.Path.{refl}
use native.Mathlib.Omega.{arith}
use lib.ListN.{length}
use Rattle.std.specs.Prelude.{unwrap_or}
use Rattle.state.specs.State.{Found, Served, Picked}
use Rattle.state.proofs.Finding.{some_found}
use Rattle.state.proofs.Stepping.{keys_small, serve_some, put_is, fitting, missed_next, kept₂, stepped}
use Rattle.checker.proofs.engine.Engine.step.Goals as goal

pub serve-running-requires : goal.serve-running-requires
serve-running-requires c = some_found c.args.now.chosen c.requires.instant (λ i b I. (omega (arith, I.sized), serve_some I b))

pub arrive-requires-clause-fitting : goal.arrive-requires-clause-fitting
arrive-requires-clause-fitting c =
    let I = c.requires.instant.is in
    fitting I (rw I.sized at c.serve-running.ensures.served.is) (rw I.sized at c.serve-running.ensures.others) (omega arith)

pub returns-in-Some-clause-written : goal.returns-in-Some-clause-written
returns-in-Some-clause-written c = (put_is c.requires.instant.is (c.put-idle.ensures _ c.requires.instant.below)).0

pub returns-in-Some-clause-slot : goal.returns-in-Some-clause-slot
returns-in-Some-clause-slot c =
    let I = c.requires.instant.is in
    (missed_next I (rw I.sized at c.serve-running.ensures.served.is) (rw I.sized at c.serve-running.ensures.others) c.in-Some.ensures.noted.is c.in-Some.ensures.noted.below, refl)

pub choose-chosen-requires-clause-keys_small : goal.choose-chosen-requires-clause-keys_small
choose-chosen-requires-clause-keys_small c =
    let I = c.requires.instant.is in
    let R = c.arrive.ensures.released c.in_default.is in
    λ i b. keys_small I.not_refused (omega arith)
    (kept₂ I (rw I.sized at c.serve-running.ensures.served.is) (rw I.sized at c.serve-running.ensures.others) c.in_default.ensures.noted.is (omega arith) R) i (omega (arith, R.sized))

pub returns-clause-written : goal.returns-clause-written
returns-clause-written c = (put_is c.requires.instant.is (c.put-idle.ensures _ c.requires.instant.below)).0

pub returns-clause-slot : goal.returns-clause-slot
returns-clause-slot c =
    let l = c.args.self.tasks.now in
    let I = c.requires.instant.is in
    let R = c.arrive.ensures.released c.in_default.is in
    let running : Found (length l) c.serve-running.result (Served (length l) (unwrap_or c.args.now.chosen (length l)) c.args.jobs.now c.serve-running.new.jobs) =
    rw I.sized at c.serve-running.ensures.served in
    let following : Found (length l) c.choose-chosen.result (Picked c.arrive.new.jobs (length l)) = rw R.sized at c.choose-chosen.ensures in (
      record {
        below = following.below;
        is = stepped I running.is (rw I.sized at c.serve-running.ensures.others) c.in_default.ensures.noted.is (omega arith) R (c.put-idle.ensures _ c.requires.instant.below) following.is
            (c.switched-preemptions.ensures _ running.below following.below);
      },
      refl,
    )
