-- `gcd` meets its contract: each call is a step of the definition. The measure is b.
use mathlib.Core.Path.{◌≡◌, sym, ◌∙◌}
use Prim.Native.Nat.{ℕ, ◌<◌}
use native.Mathlib.Omega.{arith}
use native.Mathlib.Nat.{mod-lt}
use Rattle.divisor.proofs.Divisors.{gcd_step}
use Rattle.divisor.proofs.+gcd.Goals as goal

above : (b : ℕ) → (b ≡ 0 → ⊥) → 0 < b
above b h = omega arith

pub gcd-requires : goal.gcd-requires
gcd-requires t c = (omega (arith, mod-lt c.args.a (above c.args.b c.if-b-eq0.false)), tt)

pub returns-then-b-eq0 : goal.returns-then-b-eq0
returns-then-b-eq0 t c = let e : c.args.b ≡ 0 = c.if-b-eq0.true in rw e

pub returns-else-b-eq0 : goal.returns-else-b-eq0
returns-else-b-eq0 t c =
    let a = c.args.a in
    let b = c.args.b in
    c.gcd.ensures ∙ sym (gcd_step a b (above b c.if-b-eq0.false))
