-- Keys as one number: they are in the order of the keys.
use mathlib.Core.Path.{◌≡◌, ap}
use mathlib.Core.List.{List}
use mathlib.Core.Logic.{◌⊎◌, inl, inr}
use Prim.Native.Nat.{ℕ, ◌≤◌, ◌<◌}
use native.Mathlib.Omega.{arith}
use lib.ListN.{length}
use Rattle.task.specs.declared.Task.{Task}
use Rattle.task.specs.Limits.{longest_period}
use Rattle.task.specs.Tasks.{task}
use Rattle.schedule.specs.declared.Policy.{Policy}
use Rattle.schedule.specs.declared.Policy.TheVariants.{ListOrder, RateMonotonic, DeadlineMonotonic, Edf}
use Rattle.schedule.specs.Job.{Smaller, key}
use Rattle.schedule.proofs.Keys.{ahead_of}
use Rattle.state.specs.State.{packed}

-- a key of one number is smaller by that
one_number : (a b : ℕ) → Smaller (a, 0) (b, 0) → a < b
one_number a b (inl x) = x
one_number a b (inr x) = omega arith

module _ (l : List Task) (short : (i : ℕ) → i < length l → (task l i).deadline ≤ longest_period) where
  -- under EDF a release is at most the longest period before the instant due, so where that is sooner the release can't make up for it
  pub packed_smaller : (p : Policy) (i k j m : ℕ) → j < length l → Smaller (key p l i k) (key p l j m) →
      packed p (key p l i k) < packed p (key p l j m)
  packed_smaller ListOrder i k j m b x = one_number _ _ x
  packed_smaller RateMonotonic i k j m b x = one_number _ _ x
  packed_smaller DeadlineMonotonic i k j m b x = one_number _ _ x
  packed_smaller Edf i k j m b (inl x) = omega (arith, short j b)
  packed_smaller Edf i k j m b (inr x) = omega arith

  -- of jobs of two tasks the one that goes first has the smaller number, or the lower task where these are equal
  pub packed_ahead : (p : Policy) (i k j m : ℕ) → j < length l → ahead_of p l i k j m →
      (packed p (key p l i k) < packed p (key p l j m)) ⊎ ((packed p (key p l i k) ≡ packed p (key p l j m)) × (i < j))
  packed_ahead p i k j m b (inl x) = inl (packed_smaller p i k j m b x)
  packed_ahead p i k j m b (inr x) = inr (ap (packed p) x.0, x.1)
