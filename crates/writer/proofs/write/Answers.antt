-- `write` meets its contract: each refusal, and the text written.
use mathlib.Core.Path.{sym, ◌∙◌}
use native.Mathlib.Omega.{arith}
use lib.Seq.{take_all}
use borrow.Author.Rules.{rules}
use Rattle.writer.proofs.Saving.{saved_large, saved_wrote, whole_back}
use Rattle.writer.proofs.write.Goals as goal

pub returns-then-any_large : goal.returns-then-any_large
returns-then-any_large c =
    let x = c.args in
    λ l holds. saved_large x.card x.policy x.list l holds x.out.now c.if-list-gt-MOST.false (sym c.any_large.ensures ∙ c.if-any_large.true)

pub returns : goal.returns
returns c =
    let x = c.args in
    λ l holds. rw c.ok_or.ensures.value
    (saved_wrote x.card x.policy x.list l holds x.out.now c.if-list-gt-MOST.false _ _ _ _ (search (rules, arith, take_all)) (search (rules, arith, whole_back)) (sym c.any_large.ensures ∙ c.if-any_large.false) c.write.ensures)
