-- `all_zero` meets its contract: `all` of the bytes.
use Rattle.std.proofs.Common.{rules, ◌∙◌}
use borrow.Author.Tests.{tests}
use Rattle.std.proofs.lemmas.Iterator.{YieldsList-from_slice}
use Rattle.std.proofs.lemmas.Iterator.Search.{all_from_yields_List}
use lib.Dec.{eqb}
use Rattle.unpacking.proofs.Cutting.{zero_is}
use Rattle.unpacking.proofs.check.all_zero.Goals as goal

pub returns : goal.returns
returns c =
    all_from_yields_List (λ b. eqb b 0) _ _ _ c.all.ensures.ran (YieldsList-from_slice c.args.bytes.now c.iter.ensures.rest) (λ x b q k. search (rules, tests))
    ∙ zero_is c.args.bytes.now
