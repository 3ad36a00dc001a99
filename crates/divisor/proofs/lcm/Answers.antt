-- `lcm` meets its contract: the product is compared with the limit by a division, and made only where it is no more.
use mathlib.Core.Path.{◌≡◌, sym, ap}
use Prim.Native.Nat.{ℕ, ◌*◌, ◌/◌, ◌≤◌, ◌<◌}
use native.Mathlib.Omega.{arith}
use native.Mathlib.Nat.{mul-zero, le-div_iff_mul-le, div-lt_iff_lt-mul}
use Rattle.std.specs.Prelude.{Some, None}
use Rattle.divisor.specs.Divisors.{gcd, lcm, within}
use Rattle.divisor.proofs.Divisors.{gcd_some, within_some, within_none}
use Rattle.divisor.proofs.lcm.Goals as goal

module _ (a b most g : ℕ) (some : b ≡ 0 → ⊥) (is-gcd : g ≡ gcd a b) where
  divisor-some : 0 < g
  divisor-some = rw is-gcd (gcd_some a b (omega arith))

  -- the code's product is the definition's
  product : a / g * b ≡ lcm a b
  product = ap (λ x. a / x * b) is-gcd

  fits : a / g ≤ most / b → a / g * b ≤ most
  fits h = (le-div_iff_mul-le {k = b} (omega arith)).0 h

  is_some : a / g ≤ most / b → Some (a / g * b) ≡ within most (lcm a b)
  is_some h = rw product (sym (within_some (rw product at (fits h))))

  is_none : most / b < a / g → None ≡ within most (lcm a b)
  is_none h = sym (within_none (rw product at ((div-lt_iff_lt-mul {k = b} (omega arith)).0 h)))

none : (a b most : ℕ) → b ≡ 0 → Some 0 ≡ within most (lcm a b)
none a b most e = rw (e, mul-zero) (sym (within_some {most = most} (omega arith)))

pub returns-then-b-eq0 : goal.returns-then-b-eq0
returns-then-b-eq0 c = none c.args.a c.args.b c.args.most c.if-b-eq0.true

pub nonzero_div-times : goal.nonzero_div-times
nonzero_div-times c =
    let x = c.args in
    divisor-some x.a x.b x.most c.gcd.result c.if-b-eq0.false c.gcd.ensures

pub returns-then-most-b : goal.returns-then-most-b
returns-then-most-b c =
    let x = c.args in
    is_none x.a x.b x.most c.gcd.result c.if-b-eq0.false c.gcd.ensures c.if-most-b.true

pub overflow_mul-result : goal.overflow_mul-result
overflow_mul-result c =
    let x = c.args in
    omega (arith, fits x.a x.b x.most c.gcd.result c.if-b-eq0.false c.gcd.ensures c.if-most-b.false)

pub returns : goal.returns
returns c =
    let x = c.args in
    is_some x.a x.b x.most c.gcd.result c.if-b-eq0.false c.gcd.ensures c.if-most-b.false
