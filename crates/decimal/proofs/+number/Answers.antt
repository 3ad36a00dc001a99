-- `number` meets its contract: the digits of the tenth, and one digit more.
use mathlib.Core.Path.{◌≡◌, sym, ◌∙◌, ap}
use mathlib.Core.List.{[], ◌∷◌, ◌++◌}
use Prim.Native.Nat.{ℕ, ◌/◌}
use native.Mathlib.Omega.{arith}
use Rattle.decimal.specs.Decimal.{decimal}
use Rattle.decimal.proofs.Decimal.{decimal_small, decimal_step}
use Rattle.decimal.proofs.Laying.{laid_both}
use Rattle.decimal.proofs.+number.Goals as goal

pub returns-then-n-lt-BASE : goal.returns-then-n-lt-BASE
returns-then-n-lt-BASE t c =
    let x = c.args in
    let e : c.digit.result ∷ [] ≡ decimal x.n =
    ap (λ (d : ℕ). d ∷ []) c.digit.ensures ∙ sym (decimal_small x.n c.if-n-lt-BASE.true) in
    rw e at c.byte.ensures

pub number-next-requires : goal.number-next-requires
number-next-requires t c = (omega arith, tt)

pub returns : goal.returns
returns t c =
    let x = c.args in
    let e : decimal (x.n / 10) ++ (c.digit-2.result ∷ []) ≡ decimal x.n =
    ap (λ (k : ℕ). decimal (x.n / 10) ++ (k ∷ [])) c.digit-2.ensures ∙ sym (decimal_step x.n c.if-n-lt-BASE.false) in
    rw e at (laid_both (omega arith) c.number-next.ensures c.byte-2.ensures)
