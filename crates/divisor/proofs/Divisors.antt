-- The greatest common divisor and the least common multiple are what their names say.
use mathlib.Core.Path.{◌≡◌, refl, sym, ◌∙◌, ap}
use Prim.Native.Nat.{ℕ, zero, suc, ◌+◌, ◌*◌, ◌/◌, ◌%◌, ◌≤◌, ◌<◌, ◌∣◌}
use native.Mathlib.Nat.{mod-lt, div-add-mod, mul-add, mul_assoc, mul_comm, mul_right_comm, mul-pos, one-mul, zero-mul, zero-div}
use native.Mathlib.Nat.{div-mul_cancel, mul-div_cancel'}
use native.Mathlib.Nat.{dvd_refl, dvd-zero, dvd-mul_left, dvd-mul_right, dvd-mul_right_of_dvd, dvd-mod_iff, dvd-add_iff_right}
use native.Mathlib.Nat.{pos_of_dvd_of_pos, mul-dvd-mul_left, mul-dvd-mul_right, dvd_of_mul-dvd-mul_right}
use native.Mathlib.Decide.{dec_lt}
use Rattle.std.specs.Prelude.{Some, None}
use native.Mathlib.Omega.{arith}
use borrow.Author.Tests.{le-leb, lt-leb}
use Rattle.divisor.specs.Divisors.{IsGcd, IsLcm, gcd_in, gcd, lcm, within}

-- more steps than the second number change nothing
gcd_in_enough : (f g a b : ℕ) → b ≤ f → b ≤ g → gcd_in f a b ≡ gcd_in g a b
gcd_in_enough zero zero a b h q = refl
gcd_in_enough zero (suc g) a zero h q = refl
gcd_in_enough zero (suc g) a (suc b) h q = absurd (omega arith)
gcd_in_enough (suc f) zero a zero h q = refl
gcd_in_enough (suc f) zero a (suc b) h q = absurd (omega arith)
gcd_in_enough (suc f) (suc g) a zero h q = refl
gcd_in_enough (suc f) (suc g) a (suc b) h q =
    let less : a % suc b < suc b = mod-lt a (omega arith) in
    gcd_in_enough f g (suc b) (a % suc b) (omega arith) (omega arith)

-- the step of a recursion that has no count of steps
pub gcd_step : (a b : ℕ) → 0 < b → gcd a b ≡ gcd b (a % b)
gcd_step a zero h = absurd (omega arith)
gcd_step a (suc b) h =
    let less : a % suc b < suc b = mod-lt a h in
    gcd_in_enough b (a % suc b) (suc b) (a % suc b) (omega arith) (omega arith)

gcd_in_divides : (steps a b : ℕ) → b ≤ steps → (gcd_in steps a b ∣ a) × (gcd_in steps a b ∣ b)
gcd_in_divides zero a b h =
    let e : b ≡ 0 = omega arith in
    (dvd_refl a, rw e (dvd-zero a))
gcd_in_divides (suc steps) a zero h = (dvd_refl a, dvd-zero a)
gcd_in_divides (suc steps) a (suc b) h =
    let r = gcd_in_divides steps (suc b) (a % suc b) (omega (arith, mod-lt a {m = suc b} (omega arith))) in
    ((dvd-mod_iff _ r.0).0 r.1, r.0)

-- a divisor of m * a and of m * b divides m times the greatest common divisor
gcd_in_greatest : (steps a b m d : ℕ) → d ∣ m * a → d ∣ m * b → d ∣ m * gcd_in steps a b
gcd_in_greatest zero a b m d x y = x
gcd_in_greatest (suc steps) a zero m d x y = x
gcd_in_greatest (suc steps) a (suc b) m d x y = gcd_in_greatest steps (suc b) (a % suc b) m d y rest
  where
    split : m * suc b * (a / suc b) + m * (a % suc b) ≡ m * a
    split = rw (mul_assoc m (suc b) (a / suc b), ← mul-add m (suc b * (a / suc b)) (a % suc b), div-add-mod a (suc b))

    rest : d ∣ m * (a % suc b)
    rest = (dvd-add_iff_right d (dvd-mul_right_of_dvd d y (a / suc b))).1 (rw split x)

-- the greatest common divisor is what its name says
pub gcd_is : (a b : ℕ) → IsGcd a b (gcd a b)
gcd_is a b =
    let d = gcd_in_divides b a b (omega arith) in
    record {
      left = d.0;
      right = d.1;
      greatest = λ x p q. rw one-mul at (gcd_in_greatest b a b 1 x (rw one-mul p) (rw one-mul q));
    }

pub gcd_some : (a b : ℕ) → 0 < b → 0 < gcd a b
gcd_some a b h = pos_of_dvd_of_pos (gcd_is a b).right h

module _ (a b : ℕ) (some : 0 < a) where
  gcd_above : 0 < gcd a b
  gcd_above = pos_of_dvd_of_pos (gcd_is a b).left some

  whole : a / gcd a b * gcd a b ≡ a
  whole = div-mul_cancel (gcd a b) (gcd_is a b).left

  lcm_left : a ∣ lcm a b
  lcm_left = rw (sym same) (dvd-mul_right a (b / gcd a b))
    where
      same : a * (b / gcd a b) ≡ lcm a b
      same =
          ap (λ x. x * (b / gcd a b)) (sym whole)
          ∙ mul_assoc (a / gcd a b) (gcd a b) (b / gcd a b)
          ∙ ap (λ x. a / gcd a b * x) (mul-div_cancel' (gcd a b) (gcd_is a b).right)

  lcm_least : (m : ℕ) → a ∣ m → b ∣ m → lcm a b ∣ m
  lcm_least m x y = dvd_of_mul-dvd-mul_right (lcm a b) gcd_above (rw (sym same) (gcd_in_greatest b a b m (a * b) by_a by_b))
    where
      by_a : a * b ∣ m * a
      by_a = rw (mul_comm m a) (mul-dvd-mul_left b a y)

      by_b : a * b ∣ m * b
      by_b = mul-dvd-mul_right a x b

      same : a * b ≡ lcm a b * gcd a b
      same = ap (λ x. x * b) (sym whole) ∙ mul_right_comm (a / gcd a b) (gcd a b) b

-- the least common multiple is what its name says
pub lcm_is : (a b : ℕ) → IsLcm a b (lcm a b)
lcm_is a b = go (dec_lt 0 a)
  where
    go : Dec (0 < a) → IsLcm a b (lcm a b)
    go (yes h) = record { left = lcm_left a b h; right = dvd-mul_left b (a / gcd a b); least = lcm_least a b h }
    go (no h) =
        let e : a ≡ 0 = omega arith in
        rw (e, zero-div, zero-mul) (record { left = dvd_refl 0; right = dvd-zero b; least = λ n x y. x })

-- and it is above zero where both numbers are
pub lcm_some : (a b : ℕ) → 0 < a → 0 < b → 0 < lcm a b
lcm_some a b p q = pos_of_dvd_of_pos ((lcm_is a b).least (a * b) (dvd-mul_right a b) (dvd-mul_left b a)) (mul-pos p q)

-- the two answers of a multiple with a limit
pub within_some : {most m : ℕ} → m ≤ most → within most m ≡ Some m
within_some {most} {m} h = rw (le-leb m most h)

pub within_none : {most m : ℕ} → most < m → within most m ≡ None
within_none {most} {m} h = rw (lt-leb m most h)

-- and what each says
pub is_some : (most m r : ℕ) → within most m ≡ Some r → (m ≤ most) × (r ≡ m)
is_some most m r e = go (dec_lt most m)
  where
    go : Dec (most < m) → (m ≤ most) × (r ≡ m)
    go (yes h) = let z : ◌≡◌ {A = ℕ} 0 1 = cc (within_none h) in absurd (omega arith)
    go (no h) = (omega arith, cc (within_some {most = most} {m = m} (omega arith)))

pub is_none : (most m : ℕ) → within most m ≡ None → most < m
is_none most m e = go (dec_lt most m)
  where
    go : Dec (most < m) → most < m
    go (yes h) = h
    go (no h) = let z : ◌≡◌ {A = ℕ} 0 1 = cc (within_some {most = most} {m = m} (omega arith)) in absurd (omega arith)
