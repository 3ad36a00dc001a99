-- Which list is refused, and why: the first check that fails. Document 01, "What comes back", and request #105.
use Rattle.std.specs.Prelude.{List, [], ◌∷◌, Bool, not, ◌||◌, ℕ, suc, ◌+◌, eqb, ltb, length}
use Rattle.refusal.specs.declared.Refusal.TheVariants.{Count, Period, Run, Deadline, Offset, Hyperperiod, Startup, Cycle, Timer}
use Rattle.refusal.specs.Refusals.{Finding, sound, refused_if, ◌then◌}
use Rattle.card.specs.declared.Card.{Card}
use Rattle.card.specs.Cards.{is_timed}
use Rattle.task.specs.declared.Task.{Task}
use Rattle.task.specs.Limits.{most_tasks, longest_period, latest_offset, longest_hyperperiod}
use Rattle.task.specs.Tasks.{latest, hyperperiod}

-- a period that no list may have, whatever its card
abbrev pub is_unfit : ℕ → Bool
is_unfit T = eqb T 0 || ltb longest_period T

-- task i by itself
abbrev pub task_refusal : Card → ℕ → Task → Finding
task_refusal card i τ =
    refused_if (is_unfit τ.period) Period i
    then refused_if (not (is_timed card τ.period)) Timer i
    then refused_if (eqb τ.run 0 || ltb τ.deadline τ.run) Run i
    then refused_if (ltb τ.period τ.deadline) Deadline i
    then refused_if (ltb latest_offset τ.offset) Offset i

-- task by task; i is the number of the first task of the list
abbrev pub tasks_refusal : Card → ℕ → List Task → Finding
tasks_refusal card i [] = sound
tasks_refusal card i (τ ∷ l) = task_refusal card i τ then tasks_refusal card (suc i) l

-- of a list for a card, and of the lengths of the two buffers
abbrev pub first_refusal : Card → List Task → ℕ → ℕ → Finding
first_refusal card l startup cycle =
    refused_if (eqb (length l) 0 || ltb most_tasks (length l)) Count 0
    then tasks_refusal card 0 l
    then refused_if (ltb longest_hyperperiod (hyperperiod l)) Hyperperiod 0
    then refused_if (ltb startup (latest l + hyperperiod l)) Startup 0
    then refused_if (ltb cycle (hyperperiod l)) Cycle 0
