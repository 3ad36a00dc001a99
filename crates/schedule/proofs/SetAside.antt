-- Under EDF a job that is not done is set aside only for one that is due at an earlier instant.
use mathlib.Core.Path.{◌≡◌, sym, ap}
use mathlib.Core.List.{List}
use mathlib.Core.Logic.{◌⊎◌, inl, inr}
use Prim.Native.Nat.{ℕ, suc, ◌<◌}
use native.Mathlib.Decide.{dec_lt}
use native.Mathlib.Omega.{arith}
use Rattle.task.specs.declared.Task.{Task}
use Rattle.task.specs.Tasks.{task}
use Rattle.schedule.specs.declared.Policy.TheVariants.{Edf}
use Rattle.schedule.specs.Job.{release, due, job, Choice, had, Ready, Key, Ahead, Right, Follows}
use Rattle.schedule.proofs.Unique.{ahead_total}

module _ (l : List Task) (σ : Choice) (f : Follows Edf l σ) (t i k j m : ℕ)
    (now : σ t ≡ job i k) (then : σ (suc t) ≡ job j m) (left : had σ i k (suc t) < (task l i).run) (other : i ≡ j → k ≡ m → ⊥) where
  first : Right Edf l σ t (job i k)
  first = rw now at (f t)

  second : Right Edf l σ (suc t) (job j m)
  second = rw then at (f (suc t))

  -- the job set aside is still ready, so the one that takes its place goes before it
  goes_before : Ahead Edf l j m i k
  goes_before = go (ahead_total Edf l j m i k)
    where
      still : Ready l σ i k (suc t)
      still = record { listed = first.0.listed; released = omega (arith, first.0.released); unfinished = left }

      go : Ahead Edf l j m i k ⊎ (Ahead Edf l i k j m ⊎ ((j ≡ i) × (m ≡ k))) → Ahead Edf l j m i k
      go (inl x) = x
      go (inr (inl x)) = absurd (second.1 i k still x)
      go (inr (inr e)) = absurd (other (sym e.0) (sym e.1))

  -- so it was not there a slot before
  new : release (task l j) m ≡ suc t
  new = elim (dec_lt t (release (task l j) m)) [
    | yes h ↦ omega (arith, second.0.released)
    | no h ↦
        let there : Ready l σ j m t =
        record { listed = second.0.listed; released = omega arith; unfinished = omega (arith, second.0.unfinished) } in
        absurd (first.1 j m there goes_before)
  ]

  pub edf_set_aside : due (task l j) m < due (task l i) k
  edf_set_aside = go goes_before
    where
      go : Ahead Edf l j m i k → due (task l j) m < due (task l i) k
      go (inl (inl x)) = x
      go (inl (inr x)) = absurd (omega (arith, new, first.0.released))
      go (inr x) = absurd (omega (arith, new, first.0.released, ap (λ (a : Key). a.1) x.0))
