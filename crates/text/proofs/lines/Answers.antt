-- `lines` meets its contract: the policy's line, and those after it.
use mathlib.Core.Path.{sym, ◌∙◌, ap}
use Rattle.text.specs.Held.{held}
use Rattle.text.proofs.Reading.{lines_next}
use Rattle.text.proofs.lines.Goals as goal

pub returns : goal.returns
returns c =
    let whole = rw c.in_ok-line.ensures.ok_part at c.first_line.ensures in
    c.after_policy.ensures
    ∙ sym (ap held (lines_next c.args.s.now c.in_ok-line.line.now c.in_ok-line.rest.now whole c.in_ok-policy.policy (sym c.in_ok-policy.ensures.ok_part ∙ c.policy_of.ensures)))
