-- An input has one output, and with a buffer one result and one content.
use mathlib.Core.Path.{◌≡◌, sym, ap, ap₂, ◌∙◌}
use mathlib.Core.List.{List}
use Prim.Native.Nat.{ℕ}
use Rattle.card.specs.declared.Card.{Card}
use Rattle.task.specs.declared.Task.{Task}
use Rattle.schedule.specs.declared.Policy.{Policy}
use Rattle.answer.specs.declared.Answer.{Answer}
use Rattle.answer.specs.Answers.{row}
use Rattle.answer.proofs.Pinned.{answer_pinned}
use Rattle.std.specs.Prelude.{Option}
use Rattle.decimal.proofs.Pinned.{wrote_pinned}
use Rattle.text.specs.Reading.{Reading, unread, listed}
use Rattle.report.specs.Report.{report}
use Rattle.output.specs.Output.{longest_startup, longest_cycle, clear, Reported, Output, Printed}

reported_pinned : (card : Card) (p : Policy) (l : List Task) (a b : List ℕ) → Reported card p l a → Reported card p l b → a ≡ b
reported_pinned card p l a b x y =
    let e = answer_pinned card p l (clear longest_startup) (clear longest_cycle) x.answer y.answer x.startup x.cycle y.startup y.cycle
    x.promised y.promised in
    x.is_report
    ∙ ap (λ (o : Answer). report (row o) x.startup x.cycle) e.0
    ∙ ap₂ (report (row y.answer)) e.1 e.2
    ∙ sym y.is_report

pub output_pinned : (r : Reading) (a b : List ℕ) → Output r a → Output r b → a ≡ b
output_pinned (unread n) a b x y = x ∙ sym y
output_pinned (listed card p l) a b x y = reported_pinned card p l a b x y

pub printed_pinned : (reading : Reading) (buffer : List ℕ) (r r' : Option ℕ) (left left' : List ℕ) →
    Printed reading buffer r left → Printed reading buffer r' left' → (r ≡ r') × (left ≡ left')
printed_pinned reading buffer r r' left left' x y =
    let e = output_pinned reading x.output y.output x.is_output y.is_output in
    wrote_pinned y.output buffer r r' left left' (rw e at x.wrote) y.wrote
