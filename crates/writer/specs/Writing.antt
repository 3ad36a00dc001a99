-- The text of a policy, a card and a list. Requests #101 and #105.
use Rattle.std.specs.Prelude.{◌≡◌, Bool, true, false, ◌||◌, List, [], ◌∷◌, ◌++◌, ℕ, ltb, length, drop, Result, Ok, Err}
use Rattle.card.specs.declared.Card.{Card}
use Rattle.card.specs.declared.Card.TheVariants.{Wide, Small}
use Rattle.task.specs.declared.Task.{Task}
use Rattle.task.specs.Limits.{most_tasks}
use Rattle.schedule.specs.declared.Policy.{Policy}
use Rattle.decimal.specs.Bytes.{bytes, newline, space}
use Rattle.decimal.specs.Decimal.{decimal}
use Rattle.writer.specs.declared.Unwritable.{Unwritable}
use Rattle.line.specs.Lines.{largest_number}
use Rattle.line.specs.Kinds.{policy_text, card_text}

abbrev pub field_text : ℕ → List ℕ
field_text n = space ∷ decimal n

abbrev pub task_text : Task → List ℕ
task_text τ = bytes "task" ++ field_text τ.offset ++ field_text τ.run ++ field_text τ.deadline ++ field_text τ.period ++ newline ∷ []

abbrev pub tasks_text : List Task → List ℕ
tasks_text [] = []
tasks_text (τ ∷ l) = task_text τ ++ tasks_text l

-- a wide card has no line
abbrev pub card_line : Card → List ℕ
card_line Wide = []
card_line Small = card_text ++ newline ∷ []

abbrev pub text : Card → Policy → List Task → List ℕ
text card p l = policy_text p ++ newline ∷ (card_line card ++ tasks_text l)

abbrev pub is_large : Task → Bool
is_large τ = ltb largest_number τ.offset || ltb largest_number τ.run || ltb largest_number τ.deadline || ltb largest_number τ.period

abbrev pub any_large : List Task → Bool
any_large [] = false
any_large (τ ∷ l) = is_large τ || any_large l

-- more tasks than a list may have, or a number above 999,999
abbrev pub unwritable : List Task → Bool
unwritable l = ltb most_tasks (length l) || any_large l

-- the writer's answer as the request writes it: the length, or 13
abbrev pub saved_number : Result ℕ Unwritable → ℕ
saved_number (Ok n) = n
saved_number (Err e) = 13

-- `buffer` is as it was lent, `left` as it is left
module _ (card : Card) (p : Policy) (l : List Task) (buffer : List ℕ) (r : Result ℕ Unwritable) (left : List ℕ) where
  pub record IsRefused : Type 0 where
    pub is_refused : r ≡ Err (record {})
    pub kept : left ≡ buffer

  pub record IsWritten : Type 0 where
    pub is_length : r ≡ Ok (length (text card p l))
    pub later_kept : left ≡ text card p l ++ drop (length (text card p l)) buffer

  abbrev pub either : Bool → Type 0
  either true = IsRefused
  either false = IsWritten

  -- refused exactly where the list can't be written or the lent buffer is too short
  abbrev pub SavedAs : Type 0
  SavedAs = either (unwritable l || ltb (length buffer) (length (text card p l)))
