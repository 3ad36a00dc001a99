-- What the slot engine keeps for each task, and what its parts find. A reader of the promise need not read this: it says nothing that the
-- promise leans on, and only the engine's contracts and proofs cite it.
use Rattle.std.specs.Prelude.{◌≡◌, List, Option, IfSome, unwrap_or, ◌⊎◌, ℕ, zero, suc, ◌+◌, ◌*◌, ◌/◌, ◌^◌, ◌≤◌, ◌<◌, eqb, length, get_or}
use Rattle.task.specs.declared.Task.{Task}
use Rattle.task.specs.Limits.{longest_period}
use Rattle.task.specs.Tasks.{task}
use Rattle.schedule.specs.declared.Policy.{Policy}
use Rattle.schedule.specs.declared.Policy.TheVariants.{ListOrder, RateMonotonic, DeadlineMonotonic, Edf}
use Rattle.schedule.specs.Job.{release, due, one_if, Key, key_from, key_of, Miss}
use Rattle.schedule.specs.Endless.{arrived, served, endless}
use Rattle.state.specs.declared.Job.{Job}

-- number i of a list; 0 past the end
abbrev pub at : List ℕ → ℕ → ℕ
at l i = get_or l i 0

-- what is kept for task i; nothing is kept past the end
abbrev pub job_of : List Job → ℕ → Job
job_of jobs i = get_or jobs i (record { owed = 0; next = 0; due = 0; key = 0 })

-- the oldest unfinished job of task i at t
abbrev pub present : Policy → List Task → ℕ → ℕ → ℕ
present p l t i = at (served p l t) i / (task l i).run

-- how many jobs of a task are released before t; `arrived` has those released at t as well
abbrev pub before : Task → ℕ → ℕ
before τ zero = 0
before τ (suc t) = arrived τ t

-- a key as one number. Under EDF it is made of both, in their order (`packed_smaller`); the other policies have one
abbrev pub packed : Policy → Key → ℕ
packed ListOrder a = a.0
packed RateMonotonic a = a.0
packed DeadlineMonotonic a = a.0
packed Edf a = a.0 * longest_period + a.1

-- a job of task i is unfinished: it is the last of the a jobs released, and its instant due and its key are kept
pub record Working (p : Policy) (l : List Task) (a t i d k : ℕ) : Type 0 where
  pub last : suc (present p l t i) ≡ a
  pub due_is : d ≡ due (task l i) (present p l t i)
  pub key_is : k ≡ packed p (key_of p i (task l i) (present p l t i))

-- what is kept where a i jobs of task i are released and the slots before t are given: for each task the slots owed, the next release,
-- and, where something is owed, the instant due and the key of its job
pub record Kept (p : Policy) (l : List Task) (a : ℕ → ℕ) (t : ℕ) (jobs : List Job) : Type 0 where
  pub owed_is : (i : ℕ) → i < length l → (job_of jobs i).owed + at (served p l t) i ≡ (task l i).run * a i
  pub next_is : (i : ℕ) → i < length l → (job_of jobs i).next ≡ release (task l i) (a i)
  pub working : (i : ℕ) → i < length l → 0 < (job_of jobs i).owed → Working p l (a i) t i (job_of jobs i).due (job_of jobs i).key

-- just before the releases at t, and just after them
abbrev pub KeptBefore : Policy → List Task → ℕ → List Job → Type 0
KeptBefore p l t = Kept p l (λ i. before (task l i) t) t

abbrev pub KeptAt : Policy → List Task → ℕ → List Job → Type 0
KeptAt p l t = Kept p l (λ i. arrived (task l i) t) t

-- no miss at t or before
abbrev pub Clear : Policy → List Task → ℕ → Type 0
Clear p l t = (i d : ℕ) → d ≤ t → Miss l (endless p l) i d → ⊥

-- the least of the first n numbers with a property, n where none has it
pub record First (P : ℕ → Type 0) (n r : ℕ) : Type 0 where
  pub within : r ≤ n
  pub holds : r < n → P r
  pub none_lower : (j : ℕ) → j < r → P j → ⊥

-- where there may be none: a number below n, which is as the definitions say, or none, and then n is
pub record Found (n : ℕ) (found : Option ℕ) (P : ℕ → Type 0) : Type 0 where
  pub below : IfSome found (λ i. i < n)
  pub is : P (unwrap_or found n)

-- slots are owed to a job
abbrev pub IsReady : Job → Type 0
IsReady j = 0 < j.owed

-- task i has a job due at t to which slots are owed
abbrev pub Late : List Job → ℕ → ℕ → Type 0
Late jobs t i = ((job_of jobs i).due ≡ t) × IsReady (job_of jobs i)

-- of the first n tasks that slots are owed to, the one with the least key, and the lowest of these; n where there is none
pub record Picked (jobs : List Job) (n r : ℕ) : Type 0 where
  pub within : r ≤ n
  pub waits : r < n → IsReady (job_of jobs r)
  pub least : r < n → (j : ℕ) → j < n → IsReady (job_of jobs j) →
      ((job_of jobs r).key < (job_of jobs j).key) ⊎ (((job_of jobs r).key ≡ (job_of jobs j).key) × (r ≤ j))
  pub none : n ≤ r → (j : ℕ) → j < n → IsReady (job_of jobs j) → ⊥

-- slot c given to one of the first n tasks, or to none: one slot less is owed to it, and r is the task where its job is not yet done
pub record Served (n c : ℕ) (jobs jobs' : List Job) (r : ℕ) : Type 0 where
  pub each : (i : ℕ) → i < n → (job_of jobs' i).owed + one_if (eqb c i) ≡ (job_of jobs i).owed
  pub left : c < n → 0 < (job_of jobs' c).owed → r ≡ c
  pub done : (c < n → (job_of jobs' c).owed ≡ 0) → r ≡ n
  pub sized : length jobs' ≡ length jobs

-- a job to which so many slots are owed
abbrev pub owing : Job → ℕ → Job
owing j owed = record j { owed = owed }

-- of each of the first n jobs no more than the slots owed has changed
abbrev pub OnlyOwed : ℕ → List Job → List Job → Type 0
OnlyOwed n jobs jobs' = (i : ℕ) → i < n → job_of jobs' i ≡ owing (job_of jobs i) (job_of jobs' i).owed

-- what a release of task i at t makes of what is kept for it
abbrev pub released : Policy → ℕ → Task → ℕ → Job → Job
released p i τ t j = record {
  owed = j.owed + τ.run;
  next = t + τ.period;
  due = t + τ.deadline;
  key = packed p (key_from p i τ.period τ.deadline t (t + τ.deadline));
}

-- what instant t makes of what is kept for task i: a release, where its next job is released at t
pub record Released (p : Policy) (i : ℕ) (τ : Task) (t : ℕ) (j j' : Job) : Type 0 where
  pub now : j.next ≡ t → j' ≡ released p i τ t j
  pub not_now : (j.next ≡ t → ⊥) → j' ≡ j

-- no job that the engine looks at is due later, and the key of one that is due before does not wrap: it is below 2 ^ 55
abbrev pub farthest : ℕ
farthest = 2 ^ 40

-- nothing that a release at t makes wraps
abbrev pub Fitting : List Task → ℕ → List Job → Type 0
Fitting l t jobs = (i : ℕ) → i < length l → (job_of jobs i).next ≡ t →
    ((job_of jobs i).owed + (task l i).run < 2 ^ 64) × (t + (task l i).period < 2 ^ 64) × (t + (task l i).deadline < farthest)

-- what the releases at t make of what is kept for each task
pub record AllReleased (p : Policy) (l : List Task) (t : ℕ) (jobs jobs' : List Job) : Type 0 where
  pub each : (i : ℕ) → i < length l → Released p i (task l i) t (job_of jobs i) (job_of jobs' i)
  pub sized : length jobs' ≡ length l
