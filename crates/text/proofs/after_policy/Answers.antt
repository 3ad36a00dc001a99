-- `after_policy` meets its contract: the card's line, and the tasks after it.
use mathlib.Core.Path.{sym, ◌∙◌, ap}
use Rattle.text.specs.Held.{held}
use Rattle.text.proofs.Reading.{card_small}
use Rattle.text.proofs.after_policy.Goals as goal

pub returns-in-Some : goal.returns-in-Some
returns-in-Some c =
    c.tasks.ensures ∙ sym (ap held (card_small c.args.policy c.args.s.now c.in-Some.line.now c.in-Some.rest.now c.in-Some.ensures (sym c.is_card.ensures ∙ c.if-is_card.true)))
