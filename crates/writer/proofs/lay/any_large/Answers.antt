-- `any_large` meets its contract: the tests of the tasks, one after the other.
use mathlib.Core.Path.{◌∙◌}
use Rattle.std.proofs.Common.{rules, tests}
use Rattle.std.proofs.lemmas.Iterator.{YieldsList-from_slice}
use Rattle.std.proofs.lemmas.Iterator.Search.{any_from_yields_List}
use Rattle.writer.specs.Writing.{is_large}
use Rattle.writer.proofs.Laying.{any_is}
use Rattle.writer.proofs.lay.any_large.Goals as goal

pub returns : goal.returns
returns c =
    any_from_yields_List is_large _ _ c.any.result c.any.ensures.ran (YieldsList-from_slice _ c.iter.ensures.rest) (λ x b q k. search (rules, tests))
    ∙ any_is c.args.tasks.now
