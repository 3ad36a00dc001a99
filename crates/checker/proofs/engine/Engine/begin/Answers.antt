-- `begin` meets its contract.
use native.Mathlib.Omega.{arith}
use lib.ListN.{length}
use Rattle.state.specs.State.{Found, Picked}
use Rattle.state.proofs.Finding.{none_found}
use Rattle.state.proofs.Stepping.{keys_small}
use Rattle.state.proofs.Starting.{fitting_start, none_late, kept_first, instant_first}
use Rattle.checker.proofs.engine.Engine.begin.Goals as goal

pub arrive-requires-clause-fitting : goal.arrive-requires-clause-fitting
arrive-requires-clause-fitting c = fitting_start c.requires.not_refused c.refresh.ensures

pub choose-requires-clause-keys_small : goal.choose-requires-clause-keys_small
choose-requires-clause-keys_small c =
    let N = c.requires.not_refused in
    let f = c.refresh.ensures in
    let R = c.arrive.ensures.released (none_found _ c.arrive.ensures.noted (none_late N f c.arrive.ensures.noted.is)) in
    λ i b. keys_small N (omega arith) (kept_first N f R) i (omega (arith, R.sized))

pub returns-clause-chosen : goal.returns-clause-chosen
returns-clause-chosen c =
    let N = c.requires.not_refused in
    let f = c.refresh.ensures in
    let R = c.arrive.ensures.released (none_found _ c.arrive.ensures.noted (none_late N f c.arrive.ensures.noted.is)) in
    let k : Found (length c.args.self.tasks.now) c.choose.result (Picked c.arrive.new.jobs (length c.args.self.tasks.now)) = rw R.sized at c.choose.ensures in
    record { below = k.below; is = instant_first N f R k.is }
