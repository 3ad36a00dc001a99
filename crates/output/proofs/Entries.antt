-- A table of the endless schedule takes at most three bytes an entry: a space, and a task number of two digits.
use mathlib.Core.List.{List}
use Prim.Native.Nat.{ℕ, zero, suc, ◌+◌, ◌*◌, ◌≤◌, ◌<◌}
use native.Mathlib.Decide.{dec_lt}
use native.Mathlib.Omega.{arith}
use lib.ListN.{length, length-append}
use borrow.Author.Tests.{ne_eqb}
use Rattle.task.specs.declared.Task.{Task}
use Rattle.task.specs.Limits.{most_tasks}
use Rattle.schedule.specs.declared.Policy.{Policy}
use Rattle.schedule.specs.Job.{idle, Choice}
use Rattle.schedule.specs.Endless.{endless, pick_at}
use Rattle.schedule.proofs.Schedule.{endless_slots}
use Rattle.answer.specs.Tables.{byte_of, slots}
use Rattle.decimal.proofs.Decimal.{decimal_length}
use Rattle.report.specs.Report.{slot_text, slots_text}

number_fits : (i : ℕ) → i < most_tasks → length (slot_text i) ≤ 2
number_fits i h = rw (ne_eqb i (byte_of idle) (λ e. omega arith)) (decimal_length 1 i (omega arith))

entry_fits : (p : Policy) (l : List Task) → length l ≤ most_tasks → (t : ℕ) → length (slot_text (byte_of (endless p l t))) ≤ 2
entry_fits p l few t = elim (dec_lt (pick_at p l t) (length l)) [
  | yes h ↦ rw ((endless_slots p l).busy t h) (number_fits (pick_at p l t) (omega arith))
  | no h ↦ rw ((endless_slots p l).rest t (omega arith)) (omega arith)
]

entries_fit : (σ : Choice) → ((t : ℕ) → length (slot_text (byte_of (σ t))) ≤ 2) → (t n : ℕ) → length (slots_text (slots σ t n)) ≤ 3 * n + 1
entries_fit σ h t zero = omega arith
entries_fit σ h t (suc n) = rw length-append (omega (arith, h t, entries_fit σ h (suc t) n))

pub table_fits : (p : Policy) (l : List Task) → length l ≤ most_tasks → (t n : ℕ) → length (slots_text (slots (endless p l) t n)) ≤ 3 * n + 1
table_fits p l few = entries_fit (endless p l) (entry_fits p l few)
