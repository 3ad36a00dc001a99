-- What the engine's loops over the tasks keep.
use mathlib.Core.Path.{◌≡◌}
use mathlib.Core.List.{List}
use mathlib.Core.Logic.{◌⊎◌}
use Prim.Native.Nat.{ℕ, ◌≤◌, ◌<◌}
use lib.ListN.{length}
use Rattle.task.specs.declared.Task.{Task}
use Rattle.task.specs.Limits.{largest}
use Rattle.task.specs.Tasks.{task}
use Rattle.schedule.specs.declared.Policy.{Policy}
use Rattle.state.specs.declared.Job.{Job}
use Rattle.state.specs.State.{job_of, IsReady, Released}

-- The choice among the first i of n tasks: the best so far and its key; n and the largest number where none is found.
pub record SoFar (jobs : List Job) (n i best least : ℕ) : Type 0 where
  pub within : best ≤ n
  pub passed : best < n → best < i
  pub waits : best < n → IsReady (job_of jobs best)
  pub its_key : best < n → least ≡ (job_of jobs best).key
  pub largest : n ≤ best → least ≡ largest
  pub lowest : best < n → (j : ℕ) → j < i → IsReady (job_of jobs j) →
      ((job_of jobs best).key < (job_of jobs j).key) ⊎ (((job_of jobs best).key ≡ (job_of jobs j).key) × (best ≤ j))
  pub none : n ≤ best → (j : ℕ) → j < i → IsReady (job_of jobs j) → ⊥

-- The releases at t: those of the first i tasks have happened, and the other jobs are as they were.
pub record Halfway (p : Policy) (l : List Task) (t : ℕ) (jobs₀ : List Job) (i : ℕ) (jobs : List Job) : Type 0 where
  pub done : (j : ℕ) → j < i → Released p j (task l j) t (job_of jobs₀ j) (job_of jobs j)
  pub rest : (j : ℕ) → i ≤ j → job_of jobs j ≡ job_of jobs₀ j
  pub sized : length jobs ≡ length jobs₀
