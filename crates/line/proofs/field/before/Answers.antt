-- `before` meets its contract: the first mark, or the end.
use mathlib.Core.Path.{◌≡◌, ◌∙◌, ap}
use lib.ListN.{length}
use lib.Dec.{eqb}
use Rattle.std.proofs.Common.{rules, tests, position, unwrap_or, Option, ℕ}
use Rattle.std.proofs.lemmas.Iterator.{YieldsList-from_slice}
use Rattle.std.proofs.lemmas.Iterator.Search.{position_from_yields_List}
use Rattle.line.proofs.Places.{until_first}
use Rattle.line.proofs.field.before.Goals as goal

pub returns : goal.returns
returns c =
    let x = c.args in
    let found : c.position.result ≡ position (λ b. eqb b x.mark) x.s.now =
    position_from_yields_List (λ b. eqb b x.mark) _ _ c.position.result c.position.ensures.ran (YieldsList-from_slice _ c.iter.ensures.rest)
    (λ x b q k. search (rules, tests)) in
    c.unwrap_or.ensures ∙ ap (λ (r : Option ℕ). unwrap_or r (length x.s.now)) found ∙ until_first x.mark x.s.now
