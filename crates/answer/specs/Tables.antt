-- What is read off the slots: the two tables, the counts of a feasible answer, and a slot looked up. Document 01, "What comes back".
use Rattle.std.specs.Prelude.{List, [], ◌∷◌, ◌++◌, Bool, true, false, not, ◌&&◌, ℕ, zero, suc, ◌+◌, ◌-◌, ◌%◌, eqb, ltb, length, drop}
use Rattle.task.specs.declared.Task.{Task}
use Rattle.task.specs.Tasks.{task, latest, hyperperiod, load}
use Rattle.schedule.specs.declared.Policy.{Policy}
use Rattle.schedule.specs.Job.{Slot, idle, job, is_idle, Choice, count, had}
use Rattle.schedule.specs.Endless.{endless}
use Rattle.answer.specs.declared.Plan.{Plan}

-- a table entry: the task number, or 255 for idle
abbrev pub byte_of : Slot → ℕ
byte_of idle = 255
byte_of (job i k) = i

-- the n slots from t on, in order
abbrev pub slots : Choice → ℕ → ℕ → List ℕ
slots σ t zero = []
slots σ t (suc n) = byte_of (σ t) ∷ slots σ (suc t) n

-- a buffer with its first n entries the slots from t on, and its others as they were
abbrev pub filled : Choice → ℕ → ℕ → List ℕ → List ℕ
filled σ t n buffer = slots σ t n ++ drop n buffer

-- the slot serves another job than job k of task i
abbrev pub another : ℕ → ℕ → Slot → Bool
another i k idle = false
another i k (job j m) = not (eqb i j && eqb k m)

-- the job of the slot before t is unfinished at t, and slot t serves another
abbrev pub cut_short : List Task → Choice → ℕ → Slot → Bool
cut_short l σ t idle = false
cut_short l σ t (job i k) = ltb (had σ i k t) (task l i).run && another i k (σ t)

abbrev pub preempts : List Task → Choice → ℕ → Bool
preempts l σ zero = false
preempts l σ (suc t) = cut_short l σ (suc t) (σ t)

-- M, H, L and the counts: idle slots of the two parts, and preemptions at 1 .. M + H and at M + H + 1 .. M + 2 H
abbrev pub plan_of : Policy → List Task → Plan
plan_of p l = record {
  latest = latest l;
  hyperperiod = hyperperiod l;
  load = load l (hyperperiod l);
  startup_idle = count (λ t. is_idle (endless p l t)) 0 (latest l + hyperperiod l);
  cycle_idle = count (λ t. is_idle (endless p l t)) (latest l + hyperperiod l) (hyperperiod l);
  startup_preemptions = count (preempts l (endless p l)) 1 (latest l + hyperperiod l);
  cycle_preemptions = count (preempts l (endless p l)) (suc (latest l + hyperperiod l)) (hyperperiod l);
}

-- the cycle from the entry that n steps round it lead to; an empty cycle divides nothing
abbrev pub round : List ℕ → ℕ → List ℕ
round [] n = []
round (b ∷ cycle) n = drop (n % length (b ∷ cycle)) (b ∷ cycle)

abbrev pub either_part : Bool → List ℕ → List ℕ → List ℕ
either_part true a b = a
either_part false a b = b

-- the part of one of the two tables that is handed back for instant t
abbrev pub looked : List ℕ → List ℕ → ℕ → List ℕ
looked startup cycle t = either_part (ltb t (length startup)) (drop t startup) (round cycle (t - length startup))
