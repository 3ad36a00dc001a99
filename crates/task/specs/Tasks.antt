-- What is read off a task list: its tasks, M, H and L. Document 01, "What a task list says" and "How far to look".
use Rattle.std.specs.Prelude.{List, [], ◌∷◌, ℕ, zero, suc, ◌+◌, ◌*◌, ◌/◌, ◌<◌, max, length, get_or}
use Rattle.std.specs.Int.{◌∣◌}
use Rattle.task.specs.declared.Task.{Task}
use Rattle.divisor.specs.Divisors.{lcm}

-- offset O, run time C, deadline D, period T
abbrev pub task_of : ℕ → ℕ → ℕ → ℕ → Task
task_of O C D T = record { offset = O; run = C; deadline = D; period = T }

-- what stands where no task is
abbrev pub nobody : Task
nobody = task_of 0 0 0 0

-- task i of a list, numbered from 0
abbrev pub task : List Task → ℕ → Task
task l i = get_or l i nobody

-- M, the largest offset
abbrev pub latest : List Task → ℕ
latest [] = 0
latest (τ ∷ l) = max τ.offset (latest l)

-- H is the least common multiple of all periods: each divides it, and it divides whatever they all divide
pub record IsHyperperiod (l : List Task) (H : ℕ) : Type 0 where
  pub some : 0 < H
  pub divided : (i : ℕ) → i < length l → (task l i).period ∣ H
  pub least : (m : ℕ) → ((i : ℕ) → i < length l → (task l i).period ∣ m) → H ∣ m

-- the least common multiple of h and all periods, folded from the front
abbrev pub hyperperiod_on : ℕ → List Task → ℕ
hyperperiod_on h [] = h
hyperperiod_on h (τ ∷ l) = hyperperiod_on (lcm h τ.period) l

-- H (`hyperperiod_is`)
abbrev pub hyperperiod : List Task → ℕ
hyperperiod l = hyperperiod_on 1 l

-- f 0 + .. + f (n - 1)
abbrev pub sum : (ℕ → ℕ) → ℕ → ℕ
sum f zero = 0
sum f (suc n) = sum f n + f n

-- how many jobs of task i a stretch of H instants releases
abbrev pub turns : List Task → ℕ → ℕ → ℕ
turns l H i = H / (task l i).period

-- the slots that task i wants in H instants
abbrev pub want : List Task → ℕ → ℕ → ℕ
want l H i = (task l i).run * turns l H i

-- L, the load: the slots that all tasks want in H instants
abbrev pub load : List Task → ℕ → ℕ
load l H = sum (want l H) (length l)
