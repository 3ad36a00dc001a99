-- A decimal reads as its number, and nothing else does.
use mathlib.Core.Path.{◌≡◌, refl, sym, ap, ◌∙◌}
use mathlib.Core.Bool.{Bool, true, false, ◌&&◌}
use mathlib.Core.List.{List, [], ◌∷◌, ◌++◌, append-nil}
use Prim.Native.Nat.{ℕ, ◌+◌, ◌*◌, ◌-◌, ◌/◌, ◌%◌, ◌≤◌, ◌<◌}
use native.Mathlib.Decide.{dec_lt}
use native.Mathlib.Omega.{arith}
use lib.Dec.{leb, ltb}
use lib.Seq.{append_snoc}
use borrow.Author.Tests.{lt-ltb, le-leb, ltb-true, leb-true}
use Rattle.decimal.specs.Decimal.{nought, digit, decimal}
use Rattle.decimal.proofs.Decimal.{IsDigit, decimal_small, decimal_step, by_tenths}
use Rattle.std.specs.Prelude.{Option, Some, None}
use Rattle.line.specs.Lines.{largest_number, is_digit, number_if, value_on, within, number_of}
use Rattle.line.proofs.Parts.{never}

digit_is : (d : ℕ) → d < 10 → is_digit (digit d) ≡ true
digit_is d h = rw (le-leb nought (digit d) (omega arith), le-leb (digit d) (digit 9) (omega arith))

if_of : (c : Bool) (n : Option ℕ) (v : ℕ) → number_if c n ≡ Some v → (c ≡ true) × (n ≡ Some v)
if_of true n v e = (refl, e)
if_of false n v e = never (cc)

-- a value of s, and what stands after s
value_on_lem : (s t : List ℕ) (v w : ℕ) → value_on v s ≡ Some w → value_on v (s ++ t) ≡ value_on w t
value_on_lem [] t v w e = let same : v ≡ w = cc in rw same
value_on_lem (b ∷ s) t v w e =
    let both = if_of (is_digit b) (value_on (v * 10 + (b - nought)) s) w e in
    rw both.0 (value_on_lem s t (v * 10 + (b - nought)) w both.1)

value_digit : (v d : ℕ) → d < 10 → value_on v (digit d ∷ []) ≡ Some (v * 10 + d)
value_digit v d h =
    let e : v * 10 + (digit d - nought) ≡ v * 10 + d = omega arith in
    rw (digit_is d h, e)

value_decimal : (n : ℕ) → value_on 0 (decimal n) ≡ Some n
value_decimal = by_tenths (λ n. value_on 0 (decimal n) ≡ Some n) small step
  where
    small : (n : ℕ) → n < 10 → value_on 0 (decimal n) ≡ Some n
    small n h =
        let e : 0 * 10 + n ≡ n = omega arith in
        rw (decimal_small, value_digit 0 n h, e)

    step : (n : ℕ) → 10 ≤ n → value_on 0 (decimal (n / 10)) ≡ Some (n / 10) → value_on 0 (decimal n) ≡ Some n
    step n h tenth =
        let e : n / 10 * 10 + n % 10 ≡ n = omega arith in
        rw (decimal_step, value_on_lem (decimal (n / 10)) (digit (n % 10) ∷ []) 0 (n / 10) tenth, value_digit (n / 10) (n % 10) (omega arith), e)

-- the first byte is no zero
abbrev Leads : List ℕ → Type 0
Leads [] = ⊥
Leads (b ∷ s) = nought < b

leads_on : (s t : List ℕ) → Leads s → Leads (s ++ t)
leads_on [] t h = absurd h
leads_on (b ∷ s) t h = h

decimal_leads : (n : ℕ) → 0 < n → Leads (decimal n)
decimal_leads = by_tenths (λ n. 0 < n → Leads (decimal n)) (λ n h some. rw decimal_small (omega arith))
    λ n h leads some. rw decimal_step (leads_on (decimal (n / 10)) (digit (n % 10) ∷ []) (leads (omega arith)))

number_long : (s : List ℕ) (b : ℕ) → Leads s → number_of (s ++ (b ∷ [])) ≡ within (value_on 0 (s ++ (b ∷ [])))
number_long [] b h = absurd h
number_long (a ∷ []) b h = rw (lt-ltb nought a h)
number_long (a ∷ c ∷ s) b h = rw (lt-ltb nought a h)

number_within : (n : ℕ) → number_of (decimal n) ≡ within (value_on 0 (decimal n))
number_within n = go (dec_lt n 10)
  where
    go : Dec (n < 10) → number_of (decimal n) ≡ within (value_on 0 (decimal n))
    go (yes h) = rw decimal_small
    go (no h) =
        let long : 10 ≤ n = omega arith in
        rw decimal_step (number_long (decimal (n / 10)) (digit (n % 10)) (decimal_leads (n / 10) (omega arith)))

pub number_decimal : (n : ℕ) → n ≤ largest_number → number_of (decimal n) ≡ Some n
number_decimal n h = rw (number_within n, value_decimal n, le-leb n largest_number h)

-- the other way: what reads as a number is its decimal
is_digit_lem : (b : ℕ) → is_digit b ≡ true → IsDigit b
is_digit_lem b e = go (leb nought b) refl e
  where
    go : (c : Bool) → leb nought b ≡ c → (c && leb b (digit 9)) ≡ true → IsDigit b
    go true q e = (leb-true _ _ q, leb-true _ _ e)
    go false q e = never (cc)

within_of : (n : Option ℕ) (v : ℕ) → within n ≡ Some v → (n ≡ Some v) × (v ≤ largest_number)
within_of (Some w) v e =
    let both = if_of (leb w largest_number) (Some w) v e in
    let same : w ≡ v = cc both.1 in
    (both.1, omega (arith, leb-true w largest_number both.0))
within_of None v e = never (cc)

first_digit : (b : ℕ) → IsDigit b → decimal (0 * 10 + (b - nought)) ≡ b ∷ []
first_digit b h =
    let e : digit (0 * 10 + (b - nought)) ≡ b = omega arith in
    decimal_small (0 * 10 + (b - nought)) (omega arith) ∙ rw e

next_digit : (v b : ℕ) → 0 < v → IsDigit b → decimal (v * 10 + (b - nought)) ≡ decimal v ++ (b ∷ [])
next_digit v b some h =
    let q : (v * 10 + (b - nought)) / 10 ≡ v = omega arith in
    let r : digit ((v * 10 + (b - nought)) % 10) ≡ b = omega arith in
    decimal_step (v * 10 + (b - nought)) (omega arith) ∙ rw (q, r)

value_is : (s : List ℕ) (v w : ℕ) → 0 < v → value_on v s ≡ Some w → decimal v ++ s ≡ decimal w
value_is [] v w some e = let same : v ≡ w = cc in rw (append-nil, same)
value_is (b ∷ s) v w some e =
    let both = if_of (is_digit b) (value_on (v * 10 + (b - nought)) s) w e in
    sym (append_snoc (decimal v) b s)
    ∙ ap (λ t. t ++ s) (sym (next_digit v b some (is_digit_lem b both.0)))
    ∙ value_is s (v * 10 + (b - nought)) w (omega arith) both.1

pub number_is : (s : List ℕ) (n : ℕ) → number_of s ≡ Some n → (s ≡ decimal n) × (n ≤ largest_number)
number_is [] n e = never (cc)
number_is (b ∷ []) n e =
    let read = within_of _ n e in
    let both = if_of (is_digit b) (Some (0 * 10 + (b - nought))) n read.0 in
    let same : 0 * 10 + (b - nought) ≡ n = cc both.1 in
    (sym (first_digit b (is_digit_lem b both.0)) ∙ rw same, read.1)
number_is (b ∷ c ∷ s) n e =
    let leads = if_of (ltb nought b) (within (value_on 0 (b ∷ c ∷ s))) n e in
    let read = within_of _ n leads.1 in
    let both = if_of (is_digit b) (value_on (0 * 10 + (b - nought)) (c ∷ s)) n read.0 in
    let some : 0 < 0 * 10 + (b - nought) = omega (arith, ltb-true nought b leads.0) in
    (ap (λ t. t ++ c ∷ s) (sym (first_digit b (is_digit_lem b both.0))) ∙ value_is (c ∷ s) (0 * 10 + (b - nought)) n some both.1, read.1)
