-- The order of keys: of two that differ one is the smaller, and the test of the schedule that computes finds it.
use mathlib.Core.Path.{◌≡◌, refl, sym, ap₂}
use mathlib.Core.Bool.{Bool, true, false, ◌&&◌, ◌||◌}
use mathlib.Core.Logic.{◌⊎◌, inl, inr}
use Prim.Native.Nat.{ℕ, ◌≤◌}
use native.Mathlib.Decide.{dec_lt}
use native.Mathlib.Omega.{arith}
use lib.Dec.{eqb, ltb}
use borrow.Author.Tests.{ltb-true, ltb-false, eqb-true, eqb-false}
use Rattle.schedule.specs.Job.{Key, Smaller}
use Rattle.schedule.specs.Endless.{is_smaller}

-- a is smaller than b, or is it
abbrev pub NoLarger : Key → Key → Type 0
NoLarger a b = Smaller a b ⊎ (a ≡ b)

pub key_same : (a b : Key) → a.0 ≡ b.0 → a.1 ≡ b.1 → a ≡ b
key_same a b e f = ap₂ (λ (x y : ℕ). (x, y)) e f

pub smaller_asym : (a b : Key) → Smaller a b → Smaller b a → ⊥
smaller_asym a b (inl x) (inl y) = omega arith
smaller_asym a b (inl x) (inr y) = omega arith
smaller_asym a b (inr x) (inl y) = omega arith
smaller_asym a b (inr x) (inr y) = omega arith

-- equal keys are not smaller
pub smaller_irrefl : (a b : Key) → a ≡ b → Smaller a b → ⊥
smaller_irrefl a b e x = let y : Smaller b b = rw e at x in smaller_asym b b y y

pub smaller_trans : (a b c : Key) → Smaller a b → Smaller b c → Smaller a c
smaller_trans a b c (inl x) (inl y) = inl (omega arith)
smaller_trans a b c (inl x) (inr y) = inl (omega arith)
smaller_trans a b c (inr x) (inl y) = inl (omega arith)
smaller_trans a b c (inr x) (inr y) = inr (omega arith)

-- where the first numbers are equal and the second is no larger
no_larger : (a b : Key) → a.0 ≡ b.0 → a.1 ≤ b.1 → NoLarger a b
no_larger a b e h = elim (dec_lt a.1 b.1) [
  | yes x ↦ inl (inr (e, x))
  | no x ↦ inr (key_same a b e (omega arith))
]

-- what the test says
abbrev pub Tested : Key → Key → Bool → Type 0
Tested a b true = Smaller a b
Tested a b false = NoLarger b a

pub tested : (a b : Key) → Tested a b (is_smaller a b)
tested a b = go (ltb a.0 b.0) refl (eqb a.0 b.0) refl (ltb a.1 b.1) refl
  where
    go : (x : Bool) → ltb a.0 b.0 ≡ x → (y : Bool) → eqb a.0 b.0 ≡ y → (z : Bool) → ltb a.1 b.1 ≡ z →
        Tested a b (x || (y && z))
    go true e y f z g = inl (ltb-true _ _ e)
    go false e true f true g = inr (eqb-true _ _ f, ltb-true _ _ g)
    go false e true f false g = no_larger b a (sym (eqb-true _ _ f)) (ltb-false _ _ g)
    go false e false f z g = inl (inl (omega (arith, ltb-false a.0 b.0 e, eqb-false a.0 b.0 f)))

-- of two keys that differ one is smaller
pub smaller_total : (a b : Key) → Smaller a b ⊎ ((a ≡ b) ⊎ Smaller b a)
smaller_total a b = go (is_smaller a b) (tested a b)
  where
    go : (c : Bool) → Tested a b c → Smaller a b ⊎ ((a ≡ b) ⊎ Smaller b a)
    go true x = inl x
    go false (inl x) = inr (inr x)
    go false (inr e) = inr (inl (sym e))
