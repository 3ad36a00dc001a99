-- A table of periods: the rule of one that passes a test, which is computed once for the whole table.
use mathlib.Core.Path.{◌≡◌, refl, sym, ap, ◌∙◌}
use mathlib.Core.Bool.{Bool, true, false, ◌&&◌, beq, and-eq-true_iff}
use mathlib.Core.List.{List, [], ◌∷◌}
use Prim.Native.Nat.{ℕ, zero, suc, ◌≤◌, ◌<◌}
use native.Mathlib.Nat.{mod-eq_of_lt}
use native.Mathlib.Decide.{dec_lt}
use native.Mathlib.Omega.{arith}
use lib.Dec.{eqb, leb}
use borrow.Author.Tests.{leb-true, ne_eqb}
use Rattle.card.specs.Cards.{longest_timed, is_divisor}
use Rattle.card.specs.Table.{is_among}

-- no number of the table is above 240
unfoldable pub low : List ℕ → Bool
low [] = true
low (x ∷ table) = leb x longest_timed && low table

-- of the numbers below n the table has the divisors of 240, and no other
unfoldable pub exact : List ℕ → ℕ → Bool
exact table zero = true
exact table (suc n) = beq (is_among table n) (is_divisor n) && exact table n

-- the test of a whole table
unfoldable pub passes : List ℕ → Bool
passes table = low table && exact table (suc longest_timed)

agreed : (a b : Bool) → beq a b ≡ true → a ≡ b
agreed true true e = refl
agreed true false e = sym e
agreed false true e = e
agreed false false e = refl

above_none : (table : List ℕ) → low table ≡ true → (period : ℕ) → longest_timed < period → is_among table period ≡ false
unfolding low is_among
above_none [] e period h = refl
above_none (x ∷ table) e period h =
    let p = (and-eq-true_iff (leb x longest_timed) (low table)).0 e in
    let n : x ≤ longest_timed = leb-true x longest_timed p.0 in
    rw (ne_eqb x period (λ q. omega arith), above_none table p.1 period h)

above_not : (period : ℕ) → longest_timed < period → is_divisor period ≡ false
above_not period h = ap (λ (m : ℕ). eqb m 0) (mod-eq_of_lt h)

below : (table : List ℕ) (n : ℕ) → exact table n ≡ true → (period : ℕ) → period < n → is_among table period ≡ is_divisor period
unfolding exact
below table zero e period h = absurd (omega arith)
below table (suc n) e period h =
    let p = (and-eq-true_iff (beq (is_among table n) (is_divisor n)) (exact table n)).0 e in
    elim (dec_lt period n) [
      | yes q ↦ below table n p.1 period q
      | no q ↦ last (omega arith) (agreed (is_among table n) (is_divisor n) p.0)
    ]
  where
    last : period ≡ n → is_among table n ≡ is_divisor n → is_among table period ≡ is_divisor period
    last s x = rw s x

-- a table that passes the test has exactly the divisors of 240
pub rule : (table : List ℕ) → passes table ≡ true → (period : ℕ) → is_among table period ≡ is_divisor period
unfolding passes
rule table e period = go (dec_lt longest_timed period)
  where
    p : (low table ≡ true) × (exact table (suc longest_timed) ≡ true)
    p = (and-eq-true_iff _ _).0 e

    go : Dec (longest_timed < period) → is_among table period ≡ is_divisor period
    go (yes h) = above_none table p.0 period h ∙ sym (above_not period h)
    go (no h) = below table (suc longest_timed) p.1 period (omega arith)
