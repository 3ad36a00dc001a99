-- Whatever reads as a list is that list's text, byte for byte.
use mathlib.Core.Path.{◌≡◌, refl, sym, ap, ap₂, ◌∙◌}
use mathlib.Core.Bool.{Bool, true, false, ◌&&◌}
use mathlib.Core.List.{List, [], ◌∷◌, ◌++◌, append-nil}
use Prim.Native.Nat.{ℕ, suc, ◌≤◌}
use lib.Dec.{eqb, ltb}
use lib.ListN.{length}
use lib.Seq.{append_snoc}
use borrow.Author.Tests.{eqb-true}
use Rattle.card.specs.declared.Card.{Card}
use Rattle.card.specs.declared.Card.TheVariants.{Wide, Small}
use Rattle.task.specs.declared.Task.{Task}
use Rattle.task.specs.Tasks.{task_of}
use Rattle.schedule.specs.declared.Policy.{Policy}
use Rattle.schedule.specs.declared.Policy.TheVariants.{ListOrder, RateMonotonic, DeadlineMonotonic, Edf}
use Rattle.decimal.specs.Bytes.{bytes, newline, space}
use Rattle.decimal.specs.Decimal.{decimal}
use Rattle.std.specs.Prelude.{Option, Some, None}
use Rattle.line.specs.Lines.{largest_number, parts, same, number_of}
use Rattle.line.specs.Kinds.{policy_text, card_text, is_card, first_if, first_of, line_if, with_number, next, last, task_fields, line_of}
use Rattle.text.specs.Reading.{most_bytes, Reading, with_task, tasks_on, small_if, card_on, with_policy, lines_of, unless_long, reading, listed}
use Rattle.writer.specs.Writing.{text, any_large}
use Rattle.line.proofs.Parts.{never, joined, joined_parts}
use Rattle.writer.proofs.Numbers.{number_is}
use Rattle.writer.proofs.TextLines.{Readable, not_large, line_text, fields, task_lines, card_lines, list_lines, fields_joined, lines_joined}

same_is : (s t : List ℕ) → same s t ≡ true → s ≡ t
same_is [] [] e = refl
same_is [] (c ∷ t) e = never (cc)
same_is (b ∷ s) [] e = never (cc)
same_is (b ∷ s) (c ∷ t) e = go (eqb b c) refl e (same_is s t)
  where
    go : (d : Bool) → eqb b c ≡ d → (d && same s t) ≡ true → (same s t ≡ true → s ≡ t) → b ∷ s ≡ c ∷ t
    go true q e tail = rw (eqb-true b c q, tail e)
    go false q e tail = never (cc)

-- the next field of a task's line is a decimal
next_is : (τ : Task) (Is : List (List ℕ) → Type 0) {rest : ℕ → List (List ℕ) → Option Task}
    → ((v : ℕ) → v ≤ largest_number → (more : List (List ℕ)) → rest v more ≡ Some τ → Is (decimal v ∷ more))
    → (all : List (List ℕ)) → next all rest ≡ Some τ → Is all
next_is τ Is {rest} is [] e = never (cc)
next_is τ Is {rest} is (field ∷ more) e = go (number_of field) refl e
  where
    go : (n : Option ℕ) → number_of field ≡ n → with_number n (λ v. rest v more) ≡ Some τ → Is (field ∷ more)
    go None q e = never (cc)
    go (Some v) q e = let f = number_is field v q in rw f.0 (is v f.1 more e)

last_is : (σ τ : Task) (Is : Task → List (List ℕ) → Type 0) → Is σ [] → (more : List (List ℕ)) → last σ more ≡ Some τ → Is τ more
last_is σ τ Is is [] e = let same : σ ≡ τ = cc in rw (← same) is
last_is σ τ Is is (field ∷ more) e = never (cc)

line_if_lem : (c : Bool) (line : Option Task) (τ : Task) → line_if c line ≡ Some τ → (c ≡ true) × (line ≡ Some τ)
line_if_lem true line τ e = (refl, e)
line_if_lem false line τ e = never (cc)

abbrev Are : Task → List (List ℕ) → Type 0
Are τ all = (all ≡ fields τ) × Readable τ

fields_are : (all : List (List ℕ)) (τ : Task) → task_fields all ≡ Some τ → Are τ all
fields_are [] τ e = never (cc)
fields_are (word ∷ all) τ e =
    let is-task = line_if_lem (same word (bytes "task")) _ τ e in
    rw (same_is word (bytes "task") is-task.0)
    (next_is τ (λ l. Are τ (bytes "task" ∷ l)) (λ O o.
    next_is τ (λ l. Are τ (bytes "task" ∷ decimal O ∷ l)) (λ C c.
    next_is τ (λ l. Are τ (bytes "task" ∷ decimal O ∷ decimal C ∷ l)) (λ D d.
    next_is τ (λ l. Are τ (bytes "task" ∷ decimal O ∷ decimal C ∷ decimal D ∷ l)) (λ T t.
    last_is (task_of O C D T) τ (λ σ l. Are σ (bytes "task" ∷ decimal O ∷ decimal C ∷ decimal D ∷ decimal T ∷ l))
    (refl, record { offset_small = o; run_small = c; deadline_small = d; period_small = t })))))
    all is-task.1)

line_is : (line : List ℕ) (τ : Task) → line_of line ≡ Some τ → (line ≡ line_text τ) × Readable τ
line_is line τ e =
    let all = fields_are (parts space line) τ e in
    (sym (joined_parts space line) ∙ ap (joined space) all.0 ∙ sym (fields_joined τ), all.1)

-- what the lines after the tasks l say, where they read as all tasks
record Rest (c : Card) (p : Policy) (l : List Task) (lines : List (List ℕ)) (d : Card) (q : Policy) (all : List Task) : Type 0 where
  rest : List Task
  after : all ≡ l ++ rest
  are_lines : lines ≡ task_lines rest
  are_small : any_large rest ≡ false
  card : c ≡ d
  policy : p ≡ q

tasks_are : (lines : List (List ℕ)) (c : Card) (p : Policy) (l : List Task) (n : ℕ) (d : Card) (q : Policy) (all : List Task)
    → tasks_on c p l n lines ≡ listed d q all → Rest c p l lines d q all
tasks_are [] c p l n d q all e = never (cc)
tasks_are ([] ∷ []) c p l n d q all e = record { rest = []; after = rw append-nil (cc); are_lines = refl; are_small = refl; card = cc; policy = cc }
tasks_are ((b ∷ line) ∷ []) c p l n d q all e = never (cc)
tasks_are (line ∷ more ∷ lines) c p l n d q all e = go (line_of line) refl e (λ τ. tasks_are (more ∷ lines) c p (l ++ τ ∷ []) (suc n) d q all)
  where
    reads : Task → Reading
    reads τ = tasks_on c p (l ++ τ ∷ []) (suc n) (more ∷ lines)

    go : (read : Option Task) → line_of line ≡ read → with_task read n reads ≡ listed d q all
        → ((τ : Task) → reads τ ≡ listed d q all → Rest c p (l ++ τ ∷ []) (more ∷ lines) d q all) → Rest c p l (line ∷ more ∷ lines) d q all
    go None is e on = never (cc)
    go (Some τ) is e on =
        let r = on τ e in
        let t = line_is line τ is in
        record {
          rest = τ ∷ r.rest;
          after = r.after ∙ append_snoc l τ r.rest;
          are_lines = ap₂ (λ a b. a ∷ b) t.0 r.are_lines;
          are_small = rw (not_large τ t.1) r.are_small;
          card = r.card;
          policy = r.policy;
        }

-- what the lines after a policy say, where they read as a list
abbrev Listed : List (List ℕ) → Policy → Card → Policy → List Task → Type 0
Listed lines q c p l = (lines ≡ list_lines c l) × (any_large l ≡ false) × (q ≡ p)

list_are : (d : Card) (lines : List (List ℕ)) (n : ℕ) (q : Policy) (c : Card) (p : Policy) (l : List Task)
    → tasks_on d q [] n lines ≡ listed c p l → Listed (card_lines d ++ lines) q c p l
list_are d lines n q c p l e =
    let r = tasks_are lines d q [] n c p l e in
    (rw (← r.card, r.after) (ap (λ t. card_lines d ++ t) r.are_lines), rw r.after r.are_small, r.policy)

cards_are : (lines : List (List ℕ)) (q : Policy) (c : Card) (p : Policy) (l : List Task) → card_on q lines ≡ listed c p l → Listed lines q c p l
cards_are [] q c p l e = never (cc)
cards_are (line ∷ []) q c p l e = list_are Wide (line ∷ []) 2 q c p l e
cards_are (line ∷ more ∷ lines) q c p l e = go (is_card line) refl e
  where
    go : (b : Bool) → is_card line ≡ b → small_if b (tasks_on Small q [] 3 (more ∷ lines)) (tasks_on Wide q [] 2 (line ∷ more ∷ lines)) ≡ listed c p l
        → Listed (line ∷ more ∷ lines) q c p l
    go true is e = rw (same_is line card_text is) (list_are Small (more ∷ lines) 3 q c p l e)
    go false is e = list_are Wide (line ∷ more ∷ lines) 2 q c p l e

-- one policy's text, or what is tried after it
first_if_lem : (line : List ℕ) (q p : Policy) (other : Option Policy) → (other ≡ Some p → line ≡ policy_text p)
    → first_if (same line (policy_text q)) q other ≡ Some p → line ≡ policy_text p
first_if_lem line q p other on e = go (same line (policy_text q)) refl e
  where
    go : (c : Bool) → same line (policy_text q) ≡ c → first_if c q other ≡ Some p → line ≡ policy_text p
    go true is e = let policy : q ≡ p = cc in same_is line (policy_text q) is ∙ ap policy_text policy
    go false is e = on e

first_is : (line : List ℕ) (p : Policy) → first_of line ≡ Some p → line ≡ policy_text p
first_is line p =
    first_if_lem line ListOrder p _
    (first_if_lem line RateMonotonic p _
    (first_if_lem line DeadlineMonotonic p _
    (first_if_lem line Edf p None λ e. never (cc))))

lines_are : (lines : List (List ℕ)) (c : Card) (p : Policy) (l : List Task)
    → lines_of lines ≡ listed c p l → (lines ≡ policy_text p ∷ list_lines c l) × (any_large l ≡ false)
lines_are [] c p l e = never (cc)
lines_are (line ∷ []) c p l e = never (cc)
lines_are (line ∷ more ∷ lines) c p l e = go (first_of line) refl e
  where
    go : (first : Option Policy) → first_of line ≡ first → with_policy first (λ q. card_on q (more ∷ lines)) ≡ listed c p l
        → (line ∷ more ∷ lines ≡ policy_text p ∷ list_lines c l) × (any_large l ≡ false)
    go None is e = never (cc)
    go (Some q) is e =
        let r = cards_are (more ∷ lines) q c p l e in
        (ap₂ (λ a b. a ∷ b) (first_is line q is ∙ ap policy_text r.2) r.0, r.1)

pub canonical : (s : List ℕ) (c : Card) (p : Policy) (l : List Task) → reading s ≡ listed c p l → (s ≡ text c p l) × (any_large l ≡ false)
canonical s c p l e = go (ltb most_bytes (length s)) e
  where
    go : (long : Bool) → unless_long long (lines_of (parts newline s)) ≡ listed c p l → (s ≡ text c p l) × (any_large l ≡ false)
    go true e = never (cc)
    go false e =
        let are = lines_are (parts newline s) c p l e in
        (sym (joined_parts newline s) ∙ ap (joined newline) are.0 ∙ sym (lines_joined c p l), are.1)
