-- What one slot, and a stretch of slots, make of what the slot engine keeps. Only the engine's contracts and proofs cite it. A list that its card does not refuse
-- a wide card does not refuse either, so here a list that is not refused is so on a wide card.
use Rattle.std.specs.Prelude.{◌≡◌, List, ℕ, suc, ◌+◌, ◌-◌, ◌^◌, ◌≤◌, ◌<◌, length}
use Rattle.refusal.specs.Refusals.{sound}
use Rattle.card.specs.declared.Card.TheVariants.{Wide}
use Rattle.task.specs.declared.Task.{Task}
use Rattle.task.specs.Tasks.{task, latest, hyperperiod, load}
use Rattle.task.specs.Checks.{first_refusal}
use Rattle.schedule.specs.declared.Policy.{Policy}
use Rattle.schedule.specs.Job.{idle as rest, is_idle, one_if, count, FirstMiss}
use Rattle.schedule.specs.Endless.{endless, pick_at}
use Rattle.answer.specs.Tables.{byte_of, filled, preempts}
use Rattle.state.specs.declared.Job.{Job}
use Rattle.state.specs.State.{job_of, KeptAt, Clear}

-- more than any instant that the engine reaches, and any count
abbrev pub plenty : ℕ
plenty = 2 ^ 32

-- a list that is not refused, with buffers of some length
pub record NotRefused (l : List Task) : Type 0 where
  pub startup_room : ℕ
  pub cycle_room : ℕ
  pub no_refusal : first_refusal Wide l startup_room cycle_room ≡ sound

-- before instant 0: nothing is owed, and each task's first release is next
pub record Fresh (l : List Task) (jobs : List Job) : Type 0 where
  pub nothing_owed : (i : ℕ) → i < length l → (job_of jobs i).owed ≡ 0
  pub first_next : (i : ℕ) → i < length l → (job_of jobs i).next ≡ (task l i).offset

-- instant t of a list that is not refused: the releases at it have happened, nothing was missed, and its slot is chosen
pub record Instant (p : Policy) (l : List Task) (t : ℕ) (jobs : List Job) (chosen : ℕ) : Type 0 where
  pub not_refused : NotRefused l
  pub sized : length jobs ≡ length l
  pub kept : KeptAt p l t jobs
  pub clear : Clear p l t
  pub is_chosen : chosen ≡ pick_at p l t

-- the chosen task, or the mark of an idle slot, is the entry, and one more idle slot is counted in the second case
pub record Put (n chosen entry' idle idle' : ℕ) : Type 0 where
  pub busy : chosen < n → (entry' ≡ chosen) × (idle' ≡ idle)
  pub rests : n ≤ chosen → (entry' ≡ byte_of rest) × (idle' ≡ idle + 1)

-- slot t is given, nothing is missed at the next instant, and its slot is chosen
pub record Stepped (p : Policy) (l : List Task) (t idle idle' preemptions preemptions' : ℕ) (jobs' : List Job) (chosen' : ℕ) : Type 0 where
  pub idles : idle' ≡ idle + one_if (is_idle (endless p l t))
  pub goes_on : Instant p l (suc t) jobs' chosen'
  pub switches : preemptions' ≡ preemptions + one_if (preempts l (endless p l) (suc t))

-- n slots from t on are given and written, and nothing is missed up to the instant that they lead to
pub record Stretched (p : Policy) (l : List Task) (t n : ℕ) (table table' : List ℕ) (idle preemptions : ℕ) (jobs' : List Job) (chosen' : ℕ) : Type 0 where
  pub goes_on : Instant p l (t + n) jobs' chosen'
  pub written : table' ≡ filled (endless p l) t n table
  pub idles : idle ≡ count (λ u. is_idle (endless p l u)) t n
  pub switches : preemptions ≡ count (preempts l (endless p l)) (suc t) n

-- of the n slots from t on those before the first miss are given and written: it is at an instant that one of them leads to
pub record CutOff (p : Policy) (l : List Task) (t n : ℕ) (table table' : List ℕ) (missed instant : ℕ) : Type 0 where
  pub misses : FirstMiss l (endless p l) missed instant
  pub later : t < instant
  pub within : instant ≤ t + n
  pub written : table' ≡ filled (endless p l) t (instant - t) table

-- a list that is not refused and not overloaded, with M, H and L, and two tables with room for its slots
pub record Ready (l : List Task) (startup cycle : List ℕ) (M H L : ℕ) : Type 0 where
  pub no_refusal : first_refusal Wide l (length startup) (length cycle) ≡ sound
  pub is_latest : M ≡ latest l
  pub is_hyperperiod : H ≡ hyperperiod l
  pub is_load : L ≡ load l (hyperperiod l)
  pub room : L ≤ H
