-- The three kinds of lines: a policy, a card, and a task. Requests #101 and #105.
use Rattle.std.specs.Prelude.{Bool, true, false, List, [], ◌∷◌, ℕ, Option, Some, None}
use Rattle.task.specs.declared.Task.{Task}
use Rattle.task.specs.Tasks.{task_of}
use Rattle.schedule.specs.declared.Policy.{Policy}
use Rattle.schedule.specs.declared.Policy.TheVariants.{ListOrder, RateMonotonic, DeadlineMonotonic, Edf}
use Rattle.decimal.specs.Bytes.{bytes, space}
use Rattle.line.specs.Lines.{parts, same, number_of}

abbrev pub policy_text : Policy → List ℕ
policy_text ListOrder = bytes "policy list"
policy_text RateMonotonic = bytes "policy rm"
policy_text DeadlineMonotonic = bytes "policy dm"
policy_text Edf = bytes "policy edf"

abbrev pub first_if : Bool → Policy → Option Policy → Option Policy
first_if true p other = Some p
first_if false p other = other

abbrev pub first_of : List ℕ → Option Policy
first_of line =
    first_if (same line (policy_text ListOrder)) ListOrder
    (first_if (same line (policy_text RateMonotonic)) RateMonotonic
    (first_if (same line (policy_text DeadlineMonotonic)) DeadlineMonotonic
    (first_if (same line (policy_text Edf)) Edf None)))

-- the line that a list for a small card has after its policy
abbrev pub card_text : List ℕ
card_text = bytes "card small"

abbrev pub is_card : List ℕ → Bool
is_card line = same line card_text

abbrev pub line_if : Bool → Option Task → Option Task
line_if true line = line
line_if false line = None

abbrev pub with_number : Option ℕ → (ℕ → Option Task) → Option Task
with_number None rest = None
with_number (Some v) rest = rest v

-- the next field is a number; `rest` reads on with the number and the fields after it
abbrev pub next : List (List ℕ) → (ℕ → List (List ℕ) → Option Task) → Option Task
next [] rest = None
next (field ∷ fields) rest = with_number (number_of field) (λ v. rest v fields)

-- no field is left
abbrev pub last : Task → List (List ℕ) → Option Task
last τ [] = Some τ
last τ (field ∷ fields) = None

-- `task` and four numbers
abbrev pub task_fields : List (List ℕ) → Option Task
task_fields [] = None
task_fields (word ∷ fields) =
    line_if (same word (bytes "task"))
    (next fields λ O fields. next fields λ C fields. next fields λ D fields. next fields λ T fields. last (task_of O C D T) fields)

-- fields with one space between them
abbrev pub line_of : List ℕ → Option Task
line_of line = task_fields (parts space line)
