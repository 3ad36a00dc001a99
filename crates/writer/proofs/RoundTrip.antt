-- A list's text reads as that list, with its policy and its card.
use mathlib.Core.Path.{◌≡◌, refl, ap, ◌∙◌}
use mathlib.Core.Bool.{false}
use mathlib.Core.List.{List, [], ◌∷◌, ◌++◌, append-nil}
use Prim.Native.Nat.{ℕ, suc}
use lib.Dec.{ltb}
use lib.ListN.{length}
use lib.Seq.{append_snoc}
use borrow.Author.Tests.{le-ltb}
use Rattle.card.specs.declared.Card.{Card}
use Rattle.card.specs.declared.Card.TheVariants.{Wide, Small}
use Rattle.task.specs.declared.Task.{Task}
use Rattle.task.specs.Limits.{most_tasks}
use Rattle.schedule.specs.declared.Policy.{Policy}
use Rattle.schedule.specs.declared.Policy.TheVariants.{ListOrder, RateMonotonic, DeadlineMonotonic, Edf}
use Rattle.decimal.specs.Bytes.{newline}
use Rattle.std.specs.Prelude.{Some}
use Rattle.line.specs.Lines.{parts}
use Rattle.line.specs.Kinds.{policy_text, card_text, first_of, task_fields, line_of}
use Rattle.text.specs.Reading.{most_bytes, with_task, with_policy, tasks_on, card_on, lines_of, reading, listed}
use Rattle.writer.specs.Writing.{text, is_large, any_large, unwritable}
use Rattle.task.proofs.Refusing.{neither}
use Rattle.text.proofs.Reading.{no_card}
use Rattle.writer.proofs.Numbers.{number_decimal}
use Rattle.writer.proofs.Lengths.{text_length}
use Rattle.writer.proofs.TextLines.{Readable, small, line_text, task_lines, list_lines, some_line, line_fields, text_lines}

pub line_text_lem : (τ : Task) → Readable τ → line_of (line_text τ) ≡ Some τ
line_text_lem τ s =
    ap task_fields (line_fields τ)
    ∙ rw (number_decimal _ s.offset_small, number_decimal _ s.run_small, number_decimal _ s.deadline_small, number_decimal _ s.period_small)

pub first_text : (p : Policy) → first_of (policy_text p) ≡ Some p
first_text ListOrder = refl
first_text RateMonotonic = refl
first_text DeadlineMonotonic = refl
first_text Edf = refl

tasks_step : (c : Card) (p : Policy) (l : List Task) (n : ℕ) (line : List ℕ) (m : List Task)
    → tasks_on c p l n (line ∷ task_lines m) ≡ with_task (line_of line) n λ τ. tasks_on c p (l ++ τ ∷ []) (suc n) (task_lines m)
tasks_step c p l n line =
    some_line (λ all. tasks_on c p l n (line ∷ all) ≡ with_task (line_of line) n λ τ. tasks_on c p (l ++ τ ∷ []) (suc n) all) (λ more lines. refl) Wide

tasks_text_lem : (m : List Task) (c : Card) (p : Policy) (l : List Task) (n : ℕ) → any_large m ≡ false → tasks_on c p l n (task_lines m) ≡ listed c p (l ++ m)
tasks_text_lem [] c p l n e = rw append-nil
tasks_text_lem (τ ∷ m) c p l n e =
    let both = neither (is_large τ) (any_large m) e in
    tasks_step c p l n (line_text τ) m ∙ rw (line_text_lem τ (small τ both.0), tasks_text_lem m c p (l ++ τ ∷ []) (suc n) both.1, append_snoc)

-- a task's line is no card line
card_text_lem : (c : Card) (p : Policy) (l : List Task) → any_large l ≡ false → card_on p (list_lines c l) ≡ listed c p l
card_text_lem Wide p [] e = refl
card_text_lem Wide p (τ ∷ l) e = no_card p (line_text τ) (task_lines l) refl ∙ tasks_text_lem (τ ∷ l) Wide p [] 2 e
card_text_lem Small p l e =
    some_line (λ all. card_on p (card_text ∷ all) ≡ tasks_on Small p [] 3 all) (λ more lines. refl) Wide l ∙ tasks_text_lem l Small p [] 3 e

lines_step : (line : List ℕ) (c : Card) (l : List Task) → lines_of (line ∷ list_lines c l) ≡ with_policy (first_of line) λ p. card_on p (list_lines c l)
lines_step line = some_line (λ all. lines_of (line ∷ all) ≡ with_policy (first_of line) λ p. card_on p all) λ more lines. refl

pub lines_text : (c : Card) (p : Policy) (l : List Task) → any_large l ≡ false → lines_of (parts newline (text c p l)) ≡ listed c p l
lines_text c p l e = ap lines_of (text_lines c p l) ∙ lines_step (policy_text p) c l ∙ rw (first_text p) (card_text_lem c p l e)

pub round_trip : (c : Card) (p : Policy) (l : List Task) → unwritable l ≡ false → reading (text c p l) ≡ listed c p l
round_trip c p l e =
    rw (le-ltb most_bytes (length (text c p l)) (text_length c p l e)) (lines_text c p l (neither (ltb most_tasks (length l)) (any_large l) e).1)
