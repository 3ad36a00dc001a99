-- One slot: from what the parts of the engine find to the endless schedule's next instant.
use mathlib.Core.Path.{◌≡◌, refl, sym, ap, ◌∙◌}
use mathlib.Core.List.{List}
use mathlib.Core.Bool.{not, ◌&&◌}
use Prim.Native.Nat.{ℕ, suc, ◌+◌, ◌*◌, ◌≤◌, ◌<◌}
use native.Mathlib.Nat.{div-mul-le_self}
use native.Mathlib.Numerals.{add-one}
use native.Mathlib.Decide.{dec_lt}
use native.Mathlib.Omega.{arith}
use lib.Dec.{eqb, ltb}
use lib.ListN.{length}
use Rattle.card.specs.declared.Card.TheVariants.{Wide}
use Rattle.task.specs.declared.Task.{Task}
use Rattle.task.specs.Limits.{largest, longest_period}
use Rattle.task.specs.Tasks.{task, hyperperiod}
use Rattle.task.proofs.Refusing.{Fine, Passed, passed}
use Rattle.schedule.specs.declared.Policy.{Policy}
use Rattle.schedule.specs.declared.Policy.TheVariants.{ListOrder, RateMonotonic, DeadlineMonotonic, Edf}
use Rattle.schedule.specs.Job.{release, one_if, is_idle, key_from, FirstMiss}
use Rattle.schedule.specs.Endless.{served, endless, pick_at}
use Rattle.schedule.proofs.Admitted.{is_sound}
use Rattle.schedule.proofs.Arrivals.{up_to_iff}
use Rattle.schedule.proofs.Run.{Sound}
use Rattle.schedule.proofs.Chosen.{endless_run}
use Rattle.schedule.proofs.Schedule.{endless_slots}
use Rattle.answer.specs.Tables.{byte_of, preempts}
use Rattle.state.specs.declared.Job.{Job}
use Rattle.state.specs.State.{at, job_of, present, packed, IsReady, KeptBefore, KeptAt, Clear, First, Late, Picked, Served, OnlyOwed, Fitting, AllReleased}
use Rattle.state.specs.Engine.{plenty, NotRefused, Instant, Put, Stepped}
use Rattle.state.proofs.Moves.{owed_waits, picked_is, kept_served, first_miss, clear_next, kept_released}
use Rattle.state.proofs.Preempted.{preempted}

module _ {l : List Task} (N : NotRefused l) where
  pub ok : Passed l N.startup_room N.cycle_room
  ok = passed Wide l N.startup_room N.cycle_room N.no_refusal

  pub w : Sound l (hyperperiod l)
  w = is_sound ok

  pub short_deadlines : (i : ℕ) → i < length l → (task l i).deadline ≤ longest_period
  short_deadlines i b = omega (arith, (ok.fine i b).within, (ok.fine i b).short)

  -- no key wraps, and none is the largest number
  key_small : (p : Policy) (i r : ℕ) → i < length l → r ≤ plenty →
      packed p (key_from p i (task l i).period (task l i).deadline r (r + (task l i).deadline)) < largest
  key_small p i r b q = go p
    where
      F : Fine (task l i)
      F = ok.fine i b

      go : (p : Policy) → packed p (key_from p i (task l i).period (task l i).deadline r (r + (task l i).deadline)) < largest
      go ListOrder = omega (arith, ok.few)
      go RateMonotonic = omega (arith, F.short)
      go DeadlineMonotonic = omega (arith, F.within, F.short)
      go Edf = omega (arith, F.within, F.short)

  -- a release at r wraps nothing where no more than one job's run time is owed
  pub fits : (jobs : List Job) (r : ℕ) → r ≤ plenty → ((i : ℕ) → i < length l → (job_of jobs i).owed ≤ (task l i).run) → Fitting l r jobs
  fits jobs r q one_job i b e =
      let F = ok.fine i b in (
        omega (arith, one_job i b, F.fits, F.within, F.short),
        omega (arith, F.short),
        omega (arith, F.within, F.short),
      )

  pub keys_small : {p : Policy} {t : ℕ} {jobs : List Job} → t < plenty → KeptAt p l t jobs →
      (i : ℕ) → i < length l → IsReady (job_of jobs i) → (job_of jobs i).key < largest
  keys_small {p} {t} q x i b h =
      let τ = task l i in
      let k = present p l t i in
      let W = x.working i b h in
      let r : release τ k ≤ t = (up_to_iff τ.offset τ.period (ok.fine i b).live t k).0 (omega (arith, W.last)) in
      rw W.key_is (key_small p i (release τ k) b (omega arith))

module _ {p : Policy} {l : List Task} {t : ℕ} {jobs : List Job} {chosen : ℕ} (I : Instant p l t jobs chosen) where
  N : NotRefused l
  N = I.not_refused

  -- something is owed to the chosen task
  pub serve_some : chosen < length l → IsReady (job_of jobs chosen)
  serve_some b =
      let c : pick_at p l t < length l = omega (arith, I.is_chosen) in
      rw I.is_chosen ((owed_waits p (w N) t jobs I.kept (pick_at p l t) c).1 ((endless_run p l).ready t c))

  -- what is stored is the entry of slot t
  pub put_is : {entry' idle idle' : ℕ} → Put (length l) chosen entry' idle idle' →
      (entry' ≡ byte_of (endless p l t)) × (idle' ≡ idle + one_if (is_idle (endless p l t)))
  put_is x = elim (dec_lt chosen (length l)) [
    | yes h ↦ rw ((endless_slots p l).busy t (omega (arith, I.is_chosen))) ((x.busy h).0 ∙ I.is_chosen, omega (arith, (x.busy h).1))
    | no h ↦ rw ((endless_slots p l).rest t (omega (arith, I.is_chosen))) ((x.rests (omega arith)).0, (x.rests (omega arith)).1)
  ]

  module _ {jobs₁ : List Job} {running : ℕ} (sv : Served (length l) chosen jobs jobs₁ running) (others : OnlyOwed (length l) jobs jobs₁) where
    served_is : Served (length l) (pick_at p l t) jobs jobs₁ running
    served_is = rw I.is_chosen at sv

    kept₁ : KeptBefore p l (suc t) jobs₁
    kept₁ = kept_served p (w N) t jobs jobs₁ running I.kept served_is others

    -- no more than one job's run time is owed
    one_job : (i : ℕ) → i < length l → (job_of jobs₁ i).owed ≤ (task l i).run
    one_job i b = elim (dec_lt 0 (job_of jobs₁ i).owed) [
      | no h ↦ omega arith
      | yes h ↦
          let W = kept₁.working i b h in
          omega (arith, kept₁.owed_is i b, ap (λ (a : ℕ). (task l i).run * a) W.last, div-mul-le_self (at (served p l (suc t)) i) (task l i).run)
    ]

    pub fitting : t < plenty → Fitting l (t + 1) jobs₁
    fitting q = fits N jobs₁ (t + 1) (omega arith) one_job

    module _ {missed : ℕ} (f : First (Late jobs₁ (t + 1)) (length l) missed) where
      first_is : First (Late jobs₁ (suc t)) (length l) missed
      first_is = rw add-one at f

      timely : (i : ℕ) → i < length l → 0 < (task l i).deadline
      timely i b = omega (arith, ((ok N).fine i b).runs, ((ok N).fine i b).fits)

      pub missed_next : missed < length l → FirstMiss l (endless p l) missed (t + 1)
      missed_next b = rw add-one (first_miss p (w N) timely (suc t) jobs₁ kept₁ t missed first_is b I.clear refl)

      clear₁ : length l ≤ missed → Clear p l (suc t)
      clear₁ h = clear_next p (w N) timely (suc t) jobs₁ kept₁ t missed first_is h I.clear refl

      module _ {jobs₂ : List Job} (on : length l ≤ missed) (rel : AllReleased p l (t + 1) jobs₁ jobs₂) where
        pub kept₂ : KeptAt p l (suc t) jobs₂
        kept₂ =
            kept_released p (w N) (λ j d. ((ok N).fine j d).within) (suc t) jobs₁ kept₁ (clear₁ on)
            jobs₂ (λ i b. rw add-one at (rel.each i b))

        instant₂ : {following : ℕ} → Picked jobs₂ (length l) following → Instant p l (suc t) jobs₂ following
        instant₂ {following} k = record {
          not_refused = N;
          sized = rel.sized;
          kept = kept₂;
          clear = clear₁ on;
          is_chosen = picked_is p (w N) (suc t) jobs₂ kept₂ (short_deadlines N) following k;
        }

        -- a preemption is counted where there is one
        switched : {following after : ℕ} (before : ℕ) → Picked jobs₂ (length l) following →
            after ≡ before + one_if (ltb running (length l) && not (eqb running following)) →
            after ≡ before + one_if (preempts l (endless p l) (suc t))
        switched {following} before k e =
            let q : (ltb running (length l) && not (eqb running following)) ≡ preempts l (endless p l) (suc t) =
            rw (instant₂ k).is_chosen
            (sym (preempted p (w N) t jobs jobs₁ running I.kept served_is)) in
            e ∙ ap (λ z. before + one_if z) q

        pub stepped : {entry' following before after idle idle' : ℕ} →
            Put (length l) chosen entry' idle idle' → Picked jobs₂ (length l) following →
            after ≡ before + one_if (ltb running (length l) && not (eqb running following)) →
            Stepped p l t idle idle' before after jobs₂ following
        stepped {before = before} x k e = record { idles = (put_is x).1; goes_on = instant₂ k; switches = switched before k e }
