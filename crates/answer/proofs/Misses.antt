-- A miss as a test that computes, from the slots that each task has had: the least task that misses at an instant, and the first instant.
use mathlib.Core.Path.{◌≡◌, refl, sym, ◌∙◌}
use mathlib.Core.List.{List}
use mathlib.Core.Bool.{Bool, true, false, ◌&&◌, true≢false}
use Prim.Native.Nat.{ℕ, suc, ◌*◌, ◌-◌, ◌/◌, ◌%◌, ◌<◌}
use native.Mathlib.Nat.{div-add-mod', mul-mod_left, mul-div_cancel}
use native.Mathlib.Omega.{arith}
use lib.Dec.{eqb, ltb, leb}
use lib.ListN.{length, get_or}
use borrow.Author.Tests.{ltb-true, ltb-false, leb-true, eqb-true, lt-ltb, le-leb, eq-eqb}
use Rattle.task.specs.declared.Task.{Task}
use Rattle.task.specs.Tasks.{task}
use Rattle.schedule.specs.declared.Policy.{Policy}
use Rattle.schedule.specs.Job.{due, Miss, FirstMiss}
use Rattle.schedule.specs.Endless.{served, endless}
use Rattle.schedule.proofs.Run.{Sound}
use Rattle.schedule.proofs.Chosen.{had_by}
use Rattle.schedule.proofs.Schedule.{endless_late, endless_miss}
use Rattle.answer.proofs.Search.{first_from, First, first_from_lem}

-- a task that has had s slots before t misses a deadline at t: a job is due then, and s is short of it and the older ones
abbrev pub late_at : Task → ℕ → ℕ → Bool
late_at τ t s =
    leb (due τ 0) t && (eqb ((t - due τ 0) % τ.period) 0 && ltb s (suc ((t - due τ 0) / τ.period) * τ.run))

-- the least task that misses at t, the number of tasks where none does
abbrev pub miss_in : List Task → ℕ → List ℕ → ℕ
miss_in l t ss = first_from (λ i. late_at (task l i) t (get_or ss i 0)) 0 (length l)

abbrev pub miss_at : Policy → List Task → ℕ → ℕ
miss_at p l t = miss_in l t (served p l t)

-- the least of the instants below n with a miss, n where there is none
abbrev pub miss_below : Policy → List Task → ℕ → ℕ
miss_below p l n = first_from (λ t. ltb (miss_at p l t) (length l)) 0 n

-- the test of a miss says what it should
both : (a b : Bool) → (a && b) ≡ true → (a ≡ true) × (b ≡ true)
both true b e = (refl, e)
both false b e = absurd (true≢false (sym e))

late_found : (τ : Task) (t s : ℕ) → late_at τ t s ≡ true → (k : ℕ) × (due τ k ≡ t) × (s < suc k * τ.run)
late_found τ t s e =
    let a = both (leb (due τ 0) t) _ e in
    let b = both (eqb ((t - due τ 0) % τ.period) 0) _ a.1 in (
      (t - due τ 0) / τ.period,
      omega (
        arith,
        leb-true (due τ 0) t a.0,
        eqb-true ((t - due τ 0) % τ.period) 0 b.0,
        div-add-mod' (t - due τ 0) τ.period,
      ),
      ltb-true _ _ b.1,
    )

late_seen : (τ : Task) (k s : ℕ) → 0 < τ.period → s < suc k * τ.run → late_at τ (due τ k) s ≡ true
late_seen τ k s live h =
    rw (
      le-leb (due τ 0) (due τ k) (omega arith),
      back,
      eq-eqb (k * τ.period % τ.period) 0 (mul-mod_left k τ.period),
      mul-div_cancel k live,
    )
    (lt-ltb s (suc k * τ.run) h)
  where
    back : due τ k - due τ 0 ≡ k * τ.period
    back = omega arith

module _ (p : Policy) {l : List Task} {H : ℕ} (w : Sound l H) where
  at_most : (t : ℕ) → First (λ i. late_at (task l i) t (had_by p l t i)) 0 (length l) (miss_at p l t)
  at_most t = first_from_lem (λ i. late_at (task l i) t (had_by p l t i)) 0 (length l)

  miss_seen : (i t : ℕ) → Miss l (endless p l) i t → late_at (task l i) t (had_by p l t i) ≡ true
  miss_seen i t m =
      let τ = task l i in
      rw m.due_then at (late_seen τ m.which (had_by p l (due τ m.which) i) (w.live i m.listed) (endless_late p l w i t m))

  -- the task found misses, and no lower one does
  pub miss_is : (t : ℕ) → miss_at p l t < length l → Miss l (endless p l) (miss_at p l t) t
  miss_is t h =
      let i : ℕ = miss_at p l t in
      let f = late_found (task l i) t (had_by p l t i) ((at_most t).passes (omega arith)) in
      rw f.1 at (endless_miss p l w i f.0 h (rw f.1 f.2))

  pub miss_lowest : (t j : ℕ) → j < miss_at p l t → Miss l (endless p l) j t → ⊥
  miss_lowest t j h m = true≢false (sym (miss_seen j t m) ∙ (at_most t).least j (omega arith) h)

  -- before the instant found there is no miss
  pub miss_soonest : (n e j : ℕ) → e < miss_below p l n → Miss l (endless p l) j e → ⊥
  miss_soonest n e j h m = miss_lowest e j (omega (arith, m.listed, ltb-false (miss_at p l e) (length l) none)) m
    where
      none : ltb (miss_at p l e) (length l) ≡ false
      none = (first_from_lem (λ t. ltb (miss_at p l t) (length l)) 0 n).least e (omega arith) h

  pub first_miss : (n : ℕ) → miss_below p l n < n → FirstMiss l (endless p l) (miss_at p l (miss_below p l n)) (miss_below p l n)
  first_miss n h = record {
    miss = miss_is (miss_below p l n) (ltb-true _ _ ((first_from_lem (λ t. ltb (miss_at p l t) (length l)) 0 n).passes (omega arith)));
    none_sooner = λ j e q. miss_soonest n e j q;
    none_lower = miss_lowest (miss_below p l n);
  }
