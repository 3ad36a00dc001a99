-- `refresh` meets its contract: nothing is owed to the first i tasks, and their first releases are next.
use mathlib.Core.Path.{◌≡◌}
use Prim.Native.Nat.{ℕ, ◌<◌}
use Rattle.task.specs.Tasks.{task}
use Rattle.state.specs.State.{job_of}
use Rattle.checker.proofs.engine.Engine.refresh.Given as goal

abbrev pub invariant-loop-i : goal.invariant-loop-i
invariant-loop-i l = (j : ℕ) → j < l.i → ((job_of l.jobs j).owed ≡ 0) × ((job_of l.jobs j).next ≡ (task l.self.tasks.now j).offset)
