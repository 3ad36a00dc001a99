-- A list none of whose tasks a card refuses: none is refused on a wide card, and M is within the limit of an offset.
use Rattle.std.proofs.Common.{◌≡◌, ◌∙◌, sym, List, ◌≤◌}
use Rattle.card.specs.declared.Card.{Card}
use Rattle.card.specs.declared.Card.TheVariants.{Wide}
use Rattle.task.specs.declared.Task.{Task}
use Rattle.task.specs.Limits.{latest_offset}
use Rattle.task.specs.Tasks.{latest}
use Rattle.refusal.specs.Refusals.{sound}
use Rattle.task.specs.Checks.{tasks_refusal}
use Rattle.task.proofs.Cards.{tasks_nine, not_nine}
use Rattle.task.proofs.Refusing.{tasks_fine}
use Rattle.task.proofs.Offsets.{latest_least}

module _ (card : Card) (l : List Task) (ok : tasks_refusal card 0 l ≡ sound) where
  pub wide_tasks : tasks_refusal Wide 0 l ≡ sound
  wide_tasks = sym (not_nine _ _ (tasks_nine card 0 l) ok) ∙ ok

  pub latest_few : latest l ≤ latest_offset
  latest_few = latest_least l latest_offset (λ i b. (tasks_fine card 0 l ok i b).soon)
