-- The card decides which list is refused and nothing else: what is permitted for one card is permitted for every card that finds the same of the list.
use mathlib.Core.Path.{◌≡◌, ◌∙◌}
use mathlib.Core.List.{List}
use Prim.Native.Nat.{ℕ}
use lib.ListN.{length}
use Rattle.card.specs.declared.Card.{Card}
use Rattle.task.specs.declared.Task.{Task}
use Rattle.task.specs.Checks.{first_refusal}
use Rattle.schedule.specs.declared.Policy.{Policy}
use Rattle.answer.specs.Answers.{Row, refused, overloaded, missed, feasible}
use Rattle.answer.specs.Promise.{Permitted}

module _ (card other : Card) (p : Policy) (l : List Task) (startup cycle s c : List ℕ)
    (same : first_refusal card l (length startup) (length cycle) ≡ first_refusal other l (length startup) (length cycle)) where
  pub as_on : (r : Row) → Permitted other p l startup cycle r s c → Permitted card p l startup cycle r s c
  as_on (refused number i) x = record { is_first_refusal = same ∙ x.is_first_refusal; buffers = x.buffers }
  as_on (overloaded L H) x =
      record { no_refusal = same ∙ x.no_refusal; over = x.over; is_load = x.is_load; is_hyperperiod = x.is_hyperperiod; buffers = x.buffers }
  as_on (missed i d) x = record { no_refusal = same ∙ x.no_refusal; room = x.room; first_miss = x.first_miss; buffers = x.buffers }
  as_on (feasible q) x =
      record { no_refusal = same ∙ x.no_refusal; room = x.room; no_miss = x.no_miss; is_plan = x.is_plan; buffers = x.buffers }
