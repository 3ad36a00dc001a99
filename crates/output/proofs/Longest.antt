-- No output is longer than that of a feasible list with the longest tables.
use mathlib.Core.Path.{◌≡◌, refl}
use mathlib.Core.List.{List}
use Prim.Native.Nat.{ℕ, suc, ◌+◌, ◌^◌, ◌≤◌, ◌<◌}
use native.Mathlib.Omega.{arith}
use native.Mathlib.Nat.{le_trans}
use lib.ListN.{length, length-append}
use borrow.Author.Tests.{le-ltb}
use Rattle.card.specs.declared.Card.{Card}
use Rattle.task.specs.declared.Task.{Task}
use Rattle.task.proofs.Refusing.{Passed, passed}
use Rattle.schedule.specs.declared.Policy.{Policy}
use Rattle.answer.specs.Answers.{row, Row, refused, overloaded, missed, feasible}
use Rattle.answer.specs.Promise.{Permitted}
use Rattle.answer.proofs.Verdicts.{missed_by}
use Rattle.std.specs.Prelude.{Option, Some}
use Rattle.decimal.specs.Bytes.{bytes}
use Rattle.decimal.proofs.Decimal.{decimal_length}
use Rattle.text.specs.Reading.{Reading, unread, listed, reading}
use Rattle.text.proofs.LineNumbers.{unread_most}
use Rattle.report.specs.Report.{one, two, report}
use Rattle.output.specs.Output.{longest_startup, longest_cycle, clear, Reported, Output, Printed, longest_output}
use Rattle.output.proofs.Room.{clear_length, permitted_limit}
use Rattle.output.proofs.Counts.{latest_early, load_most}
use Rattle.output.proofs.Plans.{plan_fits}

one_fits : (name : List ℕ) (k a : ℕ) → a < 10 ^ suc k → length (one name a) ≤ length name + suc k + 2
one_fits name k a h = simp length-append (omega (arith, decimal_length k a h))

two_fits : (name : List ℕ) (k m a b : ℕ) → a < 10 ^ suc k → b < 10 ^ suc m → length (two name a b) ≤ length name + suc k + suc m + 3
two_fits name k m a b h q = simp length-append (omega (arith, decimal_length k a h, decimal_length m b q))

module _ (card : Card) (p : Policy) (l : List Task) (startup cycle s c : List ℕ) (n : length startup ≡ longest_startup) (m : length cycle ≡ longest_cycle) where
  row_fits : (r : Row) → Permitted card p l startup cycle r s c → length (report r s c) ≤ longest_output
  row_fits (refused number i) x =
      let limit = permitted_limit card p l startup cycle n m number i s c x in
      omega (arith, two_fits (bytes "refused") 0 1 number i (omega (arith, limit.a_digit)) (omega (arith, limit.its_task)))
  row_fits (overloaded a b) x =
      let ok : Passed l (length startup) (length cycle) = passed card l (length startup) (length cycle) x.no_refusal in
      omega (arith, two_fits (bytes "overloaded") 5 4 a b (omega (arith, x.is_load, load_most ok)) (omega (arith, x.is_hyperperiod, ok.short)))
  row_fits (missed i d) x =
      let ok : Passed l (length startup) (length cycle) = passed card l (length startup) (length cycle) x.no_refusal in
      omega (
        arith,
        two_fits (bytes "missed") 1 4 i d
            (omega (arith, x.first_miss.miss.listed, ok.few))
            (omega (arith, missed_by card p l startup cycle s c i d x, latest_early ok, ok.short)),
      )
  row_fits (feasible q) x = plan_fits card p l startup cycle s c n m q x

reported_fits : (card : Card) (p : Policy) (l : List Task) (output : List ℕ) → Reported card p l output → length output ≤ longest_output
reported_fits card p l output x =
    rw x.is_report
    (row_fits card p l (clear longest_startup) (clear longest_cycle) x.startup x.cycle (clear_length longest_startup) (clear_length longest_cycle)
    (row x.answer) x.promised.demand_2)

pub output_fits : (input output : List ℕ) → Output (reading input) output → length output ≤ longest_output
output_fits input output = go (reading input) refl
  where
    go : (r : Reading) → reading input ≡ r → Output r output → length output ≤ longest_output
    go (unread n) e x = rw x (omega (arith, one_fits (bytes "unread") 3 n (omega (arith, unread_most input n e))))
    go (listed card p l) e x = reported_fits card p l output x

-- a buffer of that length gets every output whole
pub printed_whole : (input buffer : List ℕ) (r : Option ℕ) (left : List ℕ) → longest_output ≤ length buffer
    → Printed (reading input) buffer r left → (n : ℕ) × (r ≡ Some n)
printed_whole input buffer r left h x =
    let fits : length x.output ≤ length buffer = le_trans (output_fits input x.output x.is_output) h in
    (length x.output, (simp (le-ltb (length buffer) (length x.output) fits) at x.wrote).is_length)
