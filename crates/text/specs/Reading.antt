-- The list as text, read line by line. Requests #101 and #105.
use Rattle.std.specs.Prelude.{Bool, true, false, List, [], ◌∷◌, ◌++◌, ℕ, suc, ltb, length, Option, Some, None}
use Rattle.card.specs.declared.Card.{Card}
use Rattle.card.specs.declared.Card.TheVariants.{Wide, Small}
use Rattle.task.specs.declared.Task.{Task}
use Rattle.schedule.specs.declared.Policy.{Policy}
use Rattle.decimal.specs.Bytes.{newline}
use Rattle.line.specs.Lines.{parts}
use Rattle.line.specs.Kinds.{first_of, is_card, line_of}

-- the longest input that is read
abbrev pub most_bytes : ℕ
most_bytes = 4096

-- a card, a policy and a list, or the first line that can't be read by its number from 1; 0 for an input that is too long
pub data Reading : Type 0 where
  unread : ℕ → Reading
  listed : Card → Policy → List Task → Reading

abbrev pub with_task : Option Task → ℕ → (Task → Reading) → Reading
with_task None n rest = unread n
with_task (Some τ) n rest = rest τ

-- after the last newline there is nothing, or a line that has none
abbrev pub at_end : Card → Policy → List Task → ℕ → List ℕ → Reading
at_end card p l n [] = listed card p l
at_end card p l n (b ∷ line) = unread n

-- the lines from line n on, after a policy, a card and tasks
abbrev pub tasks_on : Card → Policy → List Task → ℕ → List (List ℕ) → Reading
tasks_on card p l n [] = unread n
tasks_on card p l n (line ∷ []) = at_end card p l n line
tasks_on card p l n (line ∷ more ∷ lines) = with_task (line_of line) n λ τ. tasks_on card p (l ++ τ ∷ []) (suc n) (more ∷ lines)

abbrev pub small_if : Bool → Reading → Reading → Reading
small_if true small wide = small
small_if false small wide = wide

-- the lines after a policy: `card small` and then the tasks, or the tasks for a wide card at once
abbrev pub card_on : Policy → List (List ℕ) → Reading
card_on p [] = unread 2
card_on p (line ∷ []) = tasks_on Wide p [] 2 (line ∷ [])
card_on p (line ∷ more ∷ lines) = small_if (is_card line) (tasks_on Small p [] 3 (more ∷ lines)) (tasks_on Wide p [] 2 (line ∷ more ∷ lines))

abbrev pub with_policy : Option Policy → (Policy → Reading) → Reading
with_policy None rest = unread 1
with_policy (Some p) rest = rest p

abbrev pub lines_of : List (List ℕ) → Reading
lines_of [] = unread 1
lines_of (line ∷ []) = unread 1
lines_of (line ∷ more ∷ lines) = with_policy (first_of line) λ p. card_on p (more ∷ lines)

abbrev pub unless_long : Bool → Reading → Reading
unless_long true reading = unread 0
unless_long false reading = reading

-- the length is looked at first
abbrev pub reading : List ℕ → Reading
reading s = unless_long (ltb most_bytes (length s)) (lines_of (parts newline s))
