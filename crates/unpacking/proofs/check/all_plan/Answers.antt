-- `all_plan` meets its contract: `all` of the blocks.
use Rattle.std.proofs.Common.{rules, ◌∙◌, length, get_or, ◌/◌}
use borrow.Author.Tests.{tests}
use Rattle.std.proofs.lemmas.Iterator.Search.{all_from_yields_List}
use lib.Dec.{eqb}
use Rattle.unpacking.proofs.Cutting.{blocks_yielded, plan_is}
use Rattle.unpacking.proofs.check.all_plan.Goals as goal

pub returns : goal.returns
returns c =
    let x = c.args in
    all_from_yields_List (λ b. eqb (get_or b 0 0) 1) _ _ _ c.all.ensures.ran (blocks_yielded x.blocks.now c.chunks_exact.ensures.rest c.chunks_exact.ensures.size)
    (λ x b q k. search (rules, tests))
    ∙ plan_is (length x.blocks.now / 64) x.blocks.now
