-- `arrive` meets its contract: none of the first i tasks was late, and their releases have happened.
use Prim.Native.Nat.{ℕ, ◌<◌}
use Rattle.state.specs.State.{Late}
use Rattle.state.proofs.Parts.{Halfway}
use Rattle.checker.proofs.engine.Engine.arrive.Given as goal

abbrev pub invariant-loop-i : goal.invariant-loop-i
invariant-loop-i l =
    record { none_late : (j : ℕ) → j < l.i → Late l.initial.jobs l.t j → ⊥; halfway : Halfway l.self.policy l.self.tasks.now l.t l.initial.jobs l.i l.jobs }
