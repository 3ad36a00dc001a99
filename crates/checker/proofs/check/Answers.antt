-- `check` meets its contract, for every list that the array holds.
use native.Mathlib.Omega.{arith}
use Rattle.checker.proofs.Admitted.{first_sound, promised}
use Rattle.checker.proofs.check.Goals as goal

pub shared_ref_as_front-tasks : goal.shared_ref_as_front-tasks
shared_ref_as_front-tasks c = (first_sound c.args.list c.args.startup.now c.args.cycle.now c.in-Ok.ensures (omega (arith, c.well_formed))).0

pub judged-requires : goal.judged-requires
judged-requires c =
    let f = first_sound c.args.list c.args.startup.now c.args.cycle.now c.in-Ok.ensures (omega (arith, c.well_formed)) in
    record { no_refusal = f.1; measured = f.2 }

pub returns-in-Ok : goal.returns-in-Ok
returns-in-Ok c =
    promised c.args.list c.args.startup.now c.args.cycle.now c.in-Ok.ensures c.args.policy _ _ c.judged.result c.judged.ensures
