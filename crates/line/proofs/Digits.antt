-- What the loop over a number's digits knows at each of them.
use mathlib.Core.Path.{◌≡◌, refl}
use mathlib.Core.Bool.{Bool, true, false}
use mathlib.Core.List.{List, [], ◌∷◌}
use Prim.Native.Nat.{ℕ, ◌+◌, ◌*◌, ◌-◌, ◌<◌}
use native.Mathlib.Omega.{arith}
use native.Mathlib.Numerals.{add-one}
use lib.ListN.{length, drop, get_or}
use lib.Seq.{drop-cons}
use borrow.Author.Tests.{lt-leb}
use Rattle.decimal.specs.Decimal.{nought}
use Rattle.std.specs.Prelude.{None}
use Rattle.line.specs.Lines.{largest_number, is_digit, number_if, value_on, within}

-- a value above the limit stays above it, whatever digits follow
pub above_stays : (v : ℕ) (s : List ℕ) → largest_number < v → within (value_on v s) ≡ None
above_stays v [] h = rw (lt-leb v largest_number h)
above_stays v (b ∷ s) h = go (is_digit b) (above_stays (v * 10 + (b - nought)) s (omega arith))
  where
    go : (t : Bool) → within (value_on (v * 10 + (b - nought)) s) ≡ None → within (number_if t (value_on (v * 10 + (b - nought)) s)) ≡ None
    go true e = e
    go false e = refl

module _ (v : ℕ) (s : List ℕ) (i : ℕ) (inside : i < length s) where
  pub one_digit : is_digit (get_or s i 0) ≡ true → value_on v (drop i s) ≡ value_on (v * 10 + (get_or s i 0 - nought)) (drop (i + 1) s)
  one_digit e = rw (add-one, drop-cons s i 0 inside, e)
