-- `pick` meets its contract: `best` is the choice among the first i tasks, and `least` its key.
use lib.ListN.{length}
use Rattle.state.specs.State.{Found}
use Rattle.state.proofs.Parts.{SoFar}
use Rattle.checker.proofs.choice.pick.Given as goal

abbrev pub invariant-loop-i : goal.invariant-loop-i
invariant-loop-i l = Found (length l.jobs) l.best (λ b. SoFar l.jobs (length l.jobs) l.i b l.least)
