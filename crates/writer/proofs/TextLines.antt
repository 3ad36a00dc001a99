-- The fields of a task's line and the lines of a list's text.
use mathlib.Core.Path.{◌≡◌, refl, sym, ap, ◌∙◌}
use mathlib.Core.Bool.{false}
use mathlib.Core.List.{List, [], ◌∷◌, ◌++◌, append_assoc}
use Prim.Native.Nat.{ℕ, ◌≤◌, ◌<◌}
use native.Mathlib.Omega.{arith}
use borrow.Author.Tests.{ltb-false, le-ltb, ne_eqb}
use Rattle.card.specs.declared.Card.{Card}
use Rattle.card.specs.declared.Card.TheVariants.{Wide, Small}
use Rattle.task.specs.declared.Task.{Task}
use Rattle.schedule.specs.declared.Policy.{Policy}
use Rattle.schedule.specs.declared.Policy.TheVariants.{ListOrder, RateMonotonic, DeadlineMonotonic, Edf}
use Rattle.decimal.specs.Bytes.{bytes, newline, space}
use Rattle.decimal.specs.Decimal.{nought, decimal}
use Rattle.decimal.proofs.Decimal.{All, IsDigit, decimal_digits}
use Rattle.line.specs.Lines.{largest_number, parts}
use Rattle.line.specs.Kinds.{policy_text, card_text}
use Rattle.writer.specs.Writing.{field_text, tasks_text, card_line, text, is_large}
use Rattle.task.proofs.Refusing.{neither}
use Rattle.line.proofs.Parts.{has, Without, joined, parts_joined, without_joined}

-- the four numbers are small enough to be read
pub record Readable (τ : Task) : Type 0 where
  pub offset_small : τ.offset ≤ largest_number
  pub run_small : τ.run ≤ largest_number
  pub deadline_small : τ.deadline ≤ largest_number
  pub period_small : τ.period ≤ largest_number

pub small : (τ : Task) → is_large τ ≡ false → Readable τ
small τ e =
    let T = neither _ _ e in
    let D = neither _ _ T.0 in
    let C = neither _ _ D.0 in
    record {
      offset_small = ltb-false _ _ C.0;
      run_small = ltb-false _ _ C.1;
      deadline_small = ltb-false _ _ D.1;
      period_small = ltb-false _ _ T.1;
    }

pub not_large : (τ : Task) → Readable τ → is_large τ ≡ false
not_large τ s =
    rw (le-ltb _ _ s.offset_small, le-ltb _ _ s.run_small, le-ltb _ _ s.deadline_small, le-ltb _ _ s.period_small)

-- a task's text without its newline
abbrev pub line_text : Task → List ℕ
line_text τ = bytes "task" ++ field_text τ.offset ++ field_text τ.run ++ field_text τ.deadline ++ field_text τ.period

abbrev pub numbers : Task → List (List ℕ)
numbers τ = decimal τ.offset ∷ decimal τ.run ∷ decimal τ.deadline ∷ decimal τ.period ∷ []

abbrev pub fields : Task → List (List ℕ)
fields τ = bytes "task" ∷ numbers τ

-- the tasks' lines, and the empty one after the last newline
abbrev pub task_lines : List Task → List (List ℕ)
task_lines [] = [] ∷ []
task_lines (τ ∷ l) = line_text τ ∷ task_lines l

-- a card's line, if it has one
abbrev pub card_lines : Card → List (List ℕ)
card_lines Wide = []
card_lines Small = card_text ∷ []

-- the lines after the policy's
abbrev pub list_lines : Card → List Task → List (List ℕ)
list_lines c l = card_lines c ++ task_lines l

regroup : (a b c d e : List ℕ) → a ++ b ++ c ++ d ++ e ≡ a ++ (b ++ (c ++ (d ++ e)))
regroup a b c d e = simp append_assoc

pub fields_joined : (τ : Task) → line_text τ ≡ joined space (fields τ)
fields_joined τ = regroup (bytes "task") (field_text τ.offset) (field_text τ.run) (field_text τ.deadline) (field_text τ.period)

-- they are never none
pub some_line : (P : List (List ℕ) → Type 0) → ((line : List ℕ) (more : List (List ℕ)) → P (line ∷ more)) → (c : Card) (l : List Task) → P (list_lines c l)
some_line P some Wide [] = some [] []
some_line P some Wide (τ ∷ l) = some (line_text τ) (task_lines l)
some_line P some Small l = some card_text (task_lines l)

joined_on : (part : List ℕ) (c : Card) (l : List Task) → joined newline (part ∷ list_lines c l) ≡ part ++ newline ∷ joined newline (list_lines c l)
joined_on part = some_line (λ all. joined newline (part ∷ all) ≡ part ++ newline ∷ joined newline all) λ line more. refl

tasks_joined : (l : List Task) → tasks_text l ≡ joined newline (task_lines l)
tasks_joined [] = refl
tasks_joined (τ ∷ l) =
    append_assoc (line_text τ) (newline ∷ []) (tasks_text l)
    ∙ ap (λ t. line_text τ ++ newline ∷ t) (tasks_joined l)
    ∙ sym (joined_on (line_text τ) Wide l)

list_joined : (c : Card) (l : List Task) → card_line c ++ tasks_text l ≡ joined newline (list_lines c l)
list_joined Wide l = tasks_joined l
list_joined Small l = ap (λ t. card_text ++ newline ∷ t) (tasks_joined l) ∙ sym (joined_on card_text Wide l)

pub lines_joined : (c : Card) (p : Policy) (l : List Task) → text c p l ≡ joined newline (policy_text p ∷ list_lines c l)
lines_joined c p l = ap (λ t. policy_text p ++ newline ∷ t) (list_joined c l) ∙ sym (joined_on (policy_text p) c l)

digits_without : (mark : ℕ) → mark < nought → (s : List ℕ) → All IsDigit s → Without mark s
digits_without mark low [] h = refl
digits_without mark low (b ∷ s) h = rw (ne_eqb b mark (λ e. omega arith)) (digits_without mark low s h.1)

-- a mark below the digits, which the word does not have, stands in no field
fields_without : (mark : ℕ) → mark < nought → Without mark (bytes "task") → (τ : Task) → All (Without mark) (fields τ)
fields_without mark low word τ = (word, (number τ.offset, (number τ.run, (number τ.deadline, (number τ.period, tt)))))
  where
    number : (n : ℕ) → Without mark (decimal n)
    number n = digits_without mark low (decimal n) (decimal_digits n)

pub line_fields : (τ : Task) → parts space (line_text τ) ≡ fields τ
line_fields τ = ap (parts space) (fields_joined τ) ∙ parts_joined space (bytes "task") (numbers τ) (fields_without space (omega arith) refl τ)

lines_without : (l : List Task) → All (Without newline) (task_lines l)
lines_without [] = (refl, tt)
lines_without (τ ∷ l) =
    (ap (has newline) (fields_joined τ) ∙ without_joined newline space refl (fields τ) (fields_without newline (omega arith) refl τ), lines_without l)

list_without : (c : Card) (l : List Task) → All (Without newline) (list_lines c l)
list_without Wide l = lines_without l
list_without Small l = (refl, lines_without l)

policy_without : (p : Policy) → Without newline (policy_text p)
policy_without ListOrder = refl
policy_without RateMonotonic = refl
policy_without DeadlineMonotonic = refl
policy_without Edf = refl

pub text_lines : (c : Card) (p : Policy) (l : List Task) → parts newline (text c p l) ≡ policy_text p ∷ list_lines c l
text_lines c p l = ap (parts newline) (lines_joined c p l) ∙ parts_joined newline (policy_text p) (list_lines c l) (policy_without p, list_without c l)
