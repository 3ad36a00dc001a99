-- A preemption under EDF always means a strictly earlier due instant.
use mathlib.Core.Path.{◌≡◌, refl, sym}
use mathlib.Core.List.{List}
use mathlib.Core.Bool.{Bool, true, false, not, ◌&&◌, true≢false}
use Prim.Native.Nat.{ℕ, suc, ◌<◌}
use lib.Dec.{eqb, ltb}
use borrow.Author.Tests.{ltb-true, eq-eqb}
use Rattle.task.specs.declared.Task.{Task}
use Rattle.task.specs.Tasks.{task}
use Rattle.schedule.specs.declared.Policy.TheVariants.{Edf}
use Rattle.schedule.specs.Job.{due, Slot, idle, job, Choice, had, Follows}
use Rattle.schedule.proofs.SetAside.{edf_set_aside}
use Rattle.answer.specs.Tables.{another, cut_short, preempts}

-- slot t + 1 goes to a job that is due earlier than the one of slot t
pub record Sooner (l : List Task) (σ : Choice) (t : ℕ) : Type 0 where
  pub i : ℕ
  pub k : ℕ
  pub j : ℕ
  pub m : ℕ
  pub set_aside : σ t ≡ job i k
  pub taken_up : σ (suc t) ≡ job j m
  pub due_earlier : due (task l j) m < due (task l i) k

two_jobs : (i k j m : ℕ) → not (eqb i j && eqb k m) ≡ true → i ≡ j → k ≡ m → ⊥
two_jobs i k j m e a b = true≢false (sym (rw (eq-eqb i j a, eq-eqb k m b) at e))

pub edf_preempts : (l : List Task) (σ : Choice) → Follows Edf l σ → (t : ℕ) → preempts l σ (suc t) ≡ true → Sooner l σ t
edf_preempts l σ f t = before (σ t) refl
  where
    after : (i k : ℕ) → σ t ≡ job i k → (y : Slot) → σ (suc t) ≡ y → (b : Bool) → ltb (had σ i k (suc t)) (task l i).run ≡ b →
        (b && another i k y) ≡ true → Sooner l σ t
    after i k x y z false q e = absurd (true≢false (sym e))
    after i k x idle z true q e = absurd (true≢false (sym e))
    after i k x (job j m) z true q e = record {
      i = i;
      k = k;
      j = j;
      m = m;
      set_aside = x;
      taken_up = z;
      due_earlier = edf_set_aside l σ f t i k j m x z (ltb-true _ _ q) (two_jobs i k j m e);
    }

    before : (x : Slot) → σ t ≡ x → cut_short l σ (suc t) x ≡ true → Sooner l σ t
    before idle z e = absurd (true≢false (sym e))
    before (job i k) z e = after i k z (σ (suc t)) refl (ltb (had σ i k (suc t)) (task l i).run) refl e
