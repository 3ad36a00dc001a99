-- Every input has an output, and none is empty.
use mathlib.Core.Path.{◌≡◌, refl, ap}
use mathlib.Core.List.{List}
use Prim.Native.Nat.{ℕ, ◌<◌}
use native.Mathlib.Omega.{arith}
use lib.ListN.{length}
use Rattle.card.specs.declared.Card.{Card}
use Rattle.task.specs.declared.Task.{Task}
use Rattle.schedule.specs.declared.Policy.{Policy}
use Rattle.answer.specs.declared.Answer.{Answer}
use Rattle.answer.specs.declared.Answer.TheVariants.{Refused, Overloaded, Missed, Feasible}
use Rattle.answer.specs.Answers.{row, Row, refused, overloaded, missed, feasible}
use Rattle.answer.specs.Promise.{Permitted, Promised}
use Rattle.answer.proofs.Model.{Outcome, model, model_permitted}
use Rattle.answer.proofs.Verdicts.{everybodys_no}
use Rattle.decimal.specs.Bytes.{bytes}
use Rattle.text.specs.Reading.{Reading, unread, listed, reading}
use Rattle.report.specs.Report.{one, report}
use Rattle.output.specs.Output.{longest_startup, longest_cycle, clear, Reported, Output}
use Rattle.output.proofs.Room.{clear_length, permitted_limit}

module _ (card : Card) (p : Policy) (l : List Task) (startup cycle : List ℕ) (n : length startup ≡ longest_startup) (m : length cycle ≡ longest_cycle) where
  -- what is permitted is an answer's row
  answer_with : (r : Row) (s c : List ℕ) → Permitted card p l startup cycle r s c → (a : Answer) × (row a ≡ r)
  answer_with (refused number i) s c x =
      let e = permitted_limit card p l startup cycle n m number i s c x in
      (Refused e.why i, ap (λ (k : ℕ). refused k i) e.its_number)
  answer_with (overloaded a b) s c x = (Overloaded a b, refl)
  answer_with (missed i d) s c x = (Missed i d, refl)
  answer_with (feasible q) s c x = (Feasible q, refl)

  pub promised_some : (a : Answer) × (s : List ℕ) × (c : List ℕ) × Promised card p l startup cycle a s c
  promised_some =
      let o : Outcome = model card p l startup cycle in
      let x : Permitted card p l startup cycle o.said o.startup o.cycle = model_permitted card p l startup cycle in
      let a = answer_with o.said o.startup o.cycle x in
      let y : Permitted card p l startup cycle (row a.0) o.startup o.cycle = rw a.1 x in
      (a.0, o.startup, o.cycle, record { demand_2 = y; demand_3 = everybodys_no card p l startup cycle o.startup o.cycle (row a.0) y })

reported_some : (card : Card) (p : Policy) (l : List Task) → (output : List ℕ) × Reported card p l output
reported_some card p l =
    let x = promised_some card p l (clear longest_startup) (clear longest_cycle) (clear_length longest_startup) (clear_length longest_cycle) in
    (report (row x.0) x.1 x.2, record { answer = x.0; startup = x.1; cycle = x.2; promised = x.3; is_report = refl })

some_of : (r : Reading) → (output : List ℕ) × Output r output
some_of (unread n) = (one (bytes "unread") n, refl)
some_of (listed card p l) = reported_some card p l

pub output_some : (input : List ℕ) → (output : List ℕ) × Output (reading input) output
output_some input = some_of (reading input)

-- no output is empty
full_row : (r : Row) (s c : List ℕ) → 0 < length (report r s c)
full_row (refused number i) s c = omega arith
full_row (overloaded a b) s c = omega arith
full_row (missed i d) s c = omega arith
full_row (feasible q) s c = omega arith

pub output_full : (r : Reading) (output : List ℕ) → Output r output → 0 < length output
output_full (unread n) output e = rw e (omega arith)
output_full (listed card p l) output x = rw x.is_report (full_row (row x.answer) x.startup x.cycle)
