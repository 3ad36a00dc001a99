-- How long the text of a list is.
use mathlib.Core.Path.{◌≡◌}
use mathlib.Core.Bool.{false}
use mathlib.Core.List.{List, [], ◌∷◌}
use Prim.Native.Nat.{ℕ, ◌+◌, ◌*◌, ◌≤◌}
use native.Mathlib.Omega.{arith}
use lib.Dec.{ltb}
use lib.ListN.{length, length-append}
use borrow.Author.Tests.{ltb-false}
use Rattle.card.specs.declared.Card.{Card}
use Rattle.card.specs.declared.Card.TheVariants.{Wide, Small}
use Rattle.task.specs.declared.Task.{Task}
use Rattle.task.specs.Limits.{most_tasks}
use Rattle.schedule.specs.declared.Policy.{Policy}
use Rattle.schedule.specs.declared.Policy.TheVariants.{ListOrder, RateMonotonic, DeadlineMonotonic, Edf}
use Rattle.decimal.specs.Decimal.{decimal}
use Rattle.decimal.proofs.Decimal.{decimal_some, decimal_length}
use Rattle.line.specs.Lines.{largest_number}
use Rattle.line.specs.Kinds.{policy_text}
use Rattle.text.specs.Reading.{most_bytes}
use Rattle.writer.specs.Writing.{task_text, tasks_text, card_line, text, is_large, any_large, unwritable}
use Rattle.task.proofs.Refusing.{neither}
use Rattle.writer.proofs.TextLines.{Readable, small}

-- 4 letters, 4 spaces, a newline and 4 numbers
task_length : (τ : Task)
    → length (task_text τ) ≡ 9 + length (decimal τ.offset) + length (decimal τ.run) + length (decimal τ.deadline) + length (decimal τ.period)
task_length τ = simp length-append (omega arith)

most_task : (τ : Task) → Readable τ → length (task_text τ) ≤ 33
most_task τ s = omega (arith, task_length τ, six s.offset_small, six s.run_small, six s.deadline_small, six s.period_small)
  where
    six : {n : ℕ} → n ≤ largest_number → length (decimal n) ≤ 6
    six {n} h = decimal_length 5 n (omega arith)

least_task : (τ : Task) → 13 ≤ length (task_text τ)
least_task τ = omega (arith, task_length τ, decimal_some τ.offset, decimal_some τ.run, decimal_some τ.deadline, decimal_some τ.period)

most_tasks_lem : (l : List Task) → any_large l ≡ false → length (tasks_text l) ≤ 33 * length l
most_tasks_lem [] e = omega arith
most_tasks_lem (τ ∷ l) e =
    let both = neither (is_large τ) (any_large l) e in
    rw length-append (omega (arith, most_task τ (small τ both.0), most_tasks_lem l both.1))

policy_length : (p : Policy) → (9 ≤ length (policy_text p)) × (length (policy_text p) ≤ 11)
policy_length ListOrder = (omega arith, omega arith)
policy_length RateMonotonic = (omega arith, omega arith)
policy_length DeadlineMonotonic = (omega arith, omega arith)
policy_length Edf = (omega arith, omega arith)

card_length : (c : Card) → length (card_line c) ≤ 11
card_length Wide = omega arith
card_length Small = omega arith

pub text_length : (c : Card) (p : Policy) (l : List Task) → unwritable l ≡ false → length (text c p l) ≤ most_bytes
text_length c p l e =
    let both = neither (ltb most_tasks (length l)) (any_large l) e in
    simp length-append (omega (arith, policy_length p, card_length c, most_tasks_lem l both.1, ltb-false most_tasks (length l) both.0))

-- so the code of a call that is not understood is no length either
pub text_least : (c : Card) (p : Policy) (l : List Task) → 10 ≤ length (text c p l)
text_least c p l = simp length-append (omega (arith, policy_length p))

-- the length is never the number of a refusal: 10 to 12 bytes for the policy alone, at least 21 with a small card or a task
pub never_13 : (c : Card) (p : Policy) (l : List Task) → length (text c p l) ≡ 13 → ⊥
never_13 Wide p [] e = omega (arith, policy_length p, rw length-append at e)
never_13 Small p [] e = omega (arith, policy_length p, rw length-append at e)
never_13 c p (τ ∷ l) e = omega (arith, policy_length p, least_task τ, simp length-append at e)
