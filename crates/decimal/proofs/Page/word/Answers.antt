-- `word` meets its contract: byte after byte.
use mathlib.Core.Path.{◌≡◌}
use mathlib.Core.List.{[], ◌∷◌, ◌++◌}
use Prim.Native.Nat.{◌+◌}
use native.Mathlib.Numerals.{add-one}
use native.Mathlib.Omega.{arith}
use lib.ListN.{take, get_or}
use lib.Seq.{take-suc, take_all}
use borrow.Author.Rules.{rules}
use Rattle.decimal.proofs.Laying.{page_both, page_as}
use Rattle.decimal.proofs.Page.word.Goals as goal

pub loop-b-preserved : goal.loop-b-preserved
loop-b-preserved c =
    let l = c.loop-b in
    let x = c.args in
    let e : take (l.b-index + 1) x.text.now ≡ take l.b-index x.text.now ++ (get_or x.text.now l.b-index 0 ∷ []) =
    rw add-one (take-suc x.text.now l.b-index 0 (search rules)) in
    rw e (page_both (omega arith) l.invariant (page_as (grind (arith, take_all)) c.byte.ensures))
