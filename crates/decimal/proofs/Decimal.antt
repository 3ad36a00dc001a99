-- The decimal of a number: one digit, or the decimal of its tenth and one digit more.
use mathlib.Core.Path.{◌≡◌, refl}
use mathlib.Core.List.{List, [], ◌∷◌, ◌++◌}
use Prim.Native.Nat.{ℕ, zero, suc, ◌/◌, ◌%◌, ◌^◌, ◌≤◌, ◌<◌}
use native.Mathlib.Nat.{pow-suc}
use native.Mathlib.Decide.{dec_lt}
use native.Mathlib.Omega.{arith}
use lib.ListN.{length, length-append}
use Rattle.decimal.specs.Decimal.{nought, digit, digits_in, decimal}

digits_none : (steps : ℕ) → digits_in steps 0 ≡ []
digits_none zero = refl
digits_none (suc steps) = refl

-- more steps than the number change nothing
digits_enough : (f g n : ℕ) → n ≤ f → n ≤ g → digits_in f n ≡ digits_in g n
digits_enough zero g zero h q = rw (digits_none g)
digits_enough zero g (suc n) h q = absurd (omega arith)
digits_enough (suc f) g zero h q = rw (digits_none g)
digits_enough (suc f) zero (suc n) h q = absurd (omega arith)
digits_enough (suc f) (suc g) (suc n) h q = rw (digits_enough f g (suc n / 10) (omega arith) (omega arith))

digits_decimal : (steps n : ℕ) → 0 < n → n ≤ steps → digits_in steps n ≡ decimal n
digits_decimal steps zero some h = absurd (omega arith)
digits_decimal steps (suc n) some h = digits_enough steps (suc n) (suc n) h (omega arith)

pub decimal_small : (n : ℕ) → n < 10 → decimal n ≡ digit n ∷ []
decimal_small zero h = refl
decimal_small (suc n) h =
    let q : suc n / 10 ≡ 0 = omega arith in
    let r : suc n % 10 ≡ suc n = omega arith in
    rw (q, r, digits_none n)

pub decimal_step : (n : ℕ) → 10 ≤ n → decimal n ≡ decimal (n / 10) ++ (digit (n % 10) ∷ [])
decimal_step zero h = absurd (omega arith)
decimal_step (suc n) h = rw (digits_decimal n (suc n / 10) (omega arith) (omega arith))

-- induction by tenths, so that no proof below counts steps
pub by_tenths : (P : ℕ → Type 0) → ((n : ℕ) → n < 10 → P n) → ((n : ℕ) → 10 ≤ n → P (n / 10) → P n) → (n : ℕ) → P n
by_tenths P small step n = within n n (omega arith)
  where
    within : (steps n : ℕ) → n ≤ steps → P n
    within zero n h = small n (omega arith)
    within (suc steps) n h = elim (dec_lt n 10) [ yes p ↦ small n p | no p ↦ step n (omega arith) (within steps (n / 10) (omega arith)) ]

pub decimal_some : (n : ℕ) → 0 < length (decimal n)
decimal_some = by_tenths (λ n. 0 < length (decimal n)) (λ n h. rw decimal_small (omega arith)) (λ n h some. rw (decimal_step, length-append) (omega arith))

pub decimal_length : (k n : ℕ) → n < 10 ^ suc k → length (decimal n) ≤ suc k
decimal_length zero n h = rw decimal_small (omega arith)
decimal_length (suc k) n h = go (dec_lt n 10) (decimal_length k (n / 10) (omega (arith, pow-suc 10 (suc k))))
  where
    go : Dec (n < 10) → length (decimal (n / 10)) ≤ suc k → length (decimal n) ≤ suc (suc k)
    go (yes p) ih = rw decimal_small (omega arith)
    go (no p) ih =
        let q : 10 ≤ n = omega arith in
        rw (decimal_step, length-append) (omega arith)

abbrev pub IsDigit : ℕ → Type 0
IsDigit b = (nought ≤ b) × (b ≤ digit 9)

module _ {A : Type 0} where
  -- P of every element
  abbrev pub All : (A → Type 0) → List A → Type 0
  All P [] = Unit {0}
  All P (a ∷ l) = P a × All P l

  pub all_append : (P : A → Type 0) (s t : List A) → All P s → All P t → All P (s ++ t)
  all_append P [] t hs ht = ht
  all_append P (a ∷ s) t hs ht = (hs.0, all_append P s t hs.1 ht)

pub decimal_digits : (n : ℕ) → All IsDigit (decimal n)
decimal_digits = by_tenths (λ n. All IsDigit (decimal n)) (λ n h. rw decimal_small ((omega arith, omega arith), tt))
    λ n h all. rw decimal_step (all_append IsDigit (decimal (n / 10)) (digit (n % 10) ∷ []) all ((omega arith, omega arith), tt))
