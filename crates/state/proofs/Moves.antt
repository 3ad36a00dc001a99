-- How the kept numbers move from an instant to the next: a slot is served, misses are noted, releases happen, the next slot is chosen.
use mathlib.Core.Path.{◌≡◌, sym, ap, ◌∙◌}
use mathlib.Core.List.{List}
use mathlib.Core.Logic.{◌⊎◌, inl, inr, ◌↔◌}
use Prim.Native.Nat.{ℕ, zero, suc, ◌+◌, ◌*◌, ◌/◌, ◌≤◌, ◌<◌}
use native.Mathlib.Nat.{mul-le-mul_left, div-lt_iff_lt-mul, mul-div_cancel_left}
use native.Mathlib.Decide.{dec_lt, ℕ_discrete}
use native.Mathlib.Omega.{arith}
use lib.ListN.{length}
use Rattle.task.specs.declared.Task.{Task}
use Rattle.task.specs.Limits.{longest_period}
use Rattle.task.specs.Tasks.{task}
use Rattle.schedule.specs.declared.Policy.{Policy}
use Rattle.schedule.specs.Job.{release, due, key_from, Miss, FirstMiss}
use Rattle.schedule.specs.Endless.{arrived, served, endless, pick_at}
use Rattle.schedule.proofs.Arrivals.{div_mono, up_to_iff, up_to_few}
use Rattle.schedule.proofs.Run.{Sound, Waits, Run, had_mono}
use Rattle.schedule.proofs.Chosen.{had_by, endless_run}
use Rattle.schedule.proofs.Keys.{ahead_of}
use Rattle.schedule.proofs.Schedule.{endless_late, endless_miss}
use Rattle.state.specs.declared.Job.{Job}
use Rattle.state.specs.State.{at, job_of, present, before, packed, Working, KeptBefore, KeptAt, Clear, First, Late, Picked, Served, OnlyOwed, released, Released}
use Rattle.state.proofs.Packing.{packed_ahead}

not_both : (a b i j : ℕ) → (a < b) ⊎ ((a ≡ b) × (i < j)) → (b < a) ⊎ ((b ≡ a) × (j ≤ i)) → ⊥
not_both a b i j (inl x) (inl y) = omega arith
not_both a b i j (inl x) (inr y) = omega arith
not_both a b i j (inr x) (inl y) = omega arith
not_both a b i j (inr x) (inr y) = omega arith

-- How many jobs are released before t.
module _ (τ : Task) (live : 0 < τ.period) where
  before_iff : (t k : ℕ) → (k < before τ t) ↔ (release τ k < t)
  before_iff zero k = (λ h. absurd (omega arith), λ h. absurd (omega arith))
  before_iff (suc t) k =
      let e = up_to_iff τ.offset τ.period live t k in
      (λ h. omega (arith, e.0 h), λ h. e.1 (omega arith))

  -- the next one is released now, or later
  arrived_now : (t : ℕ) → release τ (before τ t) ≡ t → arrived τ t ≡ suc (before τ t)
  arrived_now t e =
      let b = before τ t in
      omega (arith, (up_to_iff τ.offset τ.period live t b).1 (omega arith), up_to_few τ.offset τ.period live t (suc b) (omega arith))

  arrived_later : (t : ℕ) → (release τ (before τ t) ≡ t → ⊥) → arrived τ t ≡ before τ t
  arrived_later t ne = go (dec_lt (before τ t) (arrived τ t)) (dec_lt (arrived τ t) (before τ t))
    where
      go : Dec (before τ t < arrived τ t) → Dec (arrived τ t < before τ t) → arrived τ t ≡ before τ t
      go (no h) (no q) = omega arith
      go (yes h) q =
          let r : release τ (before τ t) ≤ t = (up_to_iff τ.offset τ.period live t (before τ t)).0 h in
          absurd (omega (arith, (before_iff t (before τ t)).1 (omega arith)))
      go (no h) (yes q) =
          let r : release τ (arrived τ t) < t = (before_iff t (arrived τ t)).0 q in
          absurd (omega (arith, (up_to_iff τ.offset τ.period live t (arrived τ t)).1 (omega arith)))

module _ (p : Policy) {l : List Task} {H : ℕ} (w : Sound l H) where
  -- The next slot: the task picked from the kept numbers is the one of the endless schedule.
  module _ (t : ℕ) (jobs : List Job) (x : KeptAt p l t jobs) where
    pub owed_waits : (i : ℕ) → i < length l → (0 < (job_of jobs i).owed) ↔ Waits l (had_by p l) t i
    owed_waits i b = (λ h. omega (arith, x.owed_is i b), λ h. omega (arith, x.owed_is i b))

    pub picked_is : ((i : ℕ) → i < length l → (task l i).deadline ≤ longest_period) → (r : ℕ) → Picked jobs (length l) r → r ≡ pick_at p l t
    picked_is short r k = go (dec_lt (pick_at p l t) (length l)) (dec_lt r (length l)) (ℕ_discrete r (pick_at p l t))
      where
        R : Run l (ahead_of p l) (had_by p l) (pick_at p l)
        R = endless_run p l

        key_ahead : pick_at p l t < length l → r < length l → (r ≡ pick_at p l t → ⊥) →
            ((job_of jobs (pick_at p l t)).key < (job_of jobs r).key) ⊎ (((job_of jobs (pick_at p l t)).key ≡ (job_of jobs r).key) × (pick_at p l t < r))
        key_ahead a b ne =
            let i : ℕ = pick_at p l t in
            rw ((x.working i a ((owed_waits i a).1 (R.ready t a))).key_is, (x.working r b (k.waits b)).key_is)
            (packed_ahead l short p i (present p l t i) r (present p l t r) b (R.first t r a b ne ((owed_waits r b).0 (k.waits b))))

        -- of two that differ neither goes before the other
        clash : pick_at p l t < length l → r < length l → (r ≡ pick_at p l t → ⊥) → ⊥
        clash a b ne =
            let i : ℕ = pick_at p l t in
            not_both ((job_of jobs i).key) ((job_of jobs r).key) i r (key_ahead a b ne) (k.least b i a ((owed_waits i a).1 (R.ready t a)))

        go : Dec (pick_at p l t < length l) → Dec (r < length l) → Dec (r ≡ pick_at p l t) → r ≡ pick_at p l t
        go a b (yes e) = e
        go (yes a) (yes b) (no ne) = absurd (clash a b ne)
        go (yes a) (no b) (no ne) = absurd (k.none (omega arith) (pick_at p l t) a ((owed_waits (pick_at p l t) a).1 (R.ready t a)))
        go (no a) (yes b) (no ne) = absurd (R.idle t r (omega arith) b ((owed_waits r b).0 (k.waits b)))
        go (no a) (no b) (no ne) = omega (arith, R.named t, k.within)

  -- A slot is served: what is owed and what was had go over into one another.
  module _ (t : ℕ) (jobs jobs' : List Job) (r : ℕ) (x : KeptAt p l t jobs)
      (sv : Served (length l) (pick_at p l t) jobs jobs' r) where
    pub had_next : (i : ℕ) → i < length l → (job_of jobs' i).owed + at (served p l (suc t)) i ≡ (job_of jobs i).owed + at (served p l t) i
    had_next i b = omega (arith, (endless_run p l).step t i b, sv.each i b)

    -- a job that is not done is the same a slot later
    pub same_job : (i : ℕ) → i < length l → 0 < (job_of jobs' i).owed → present p l (suc t) i ≡ present p l t i
    same_job i b h =
        let C = (task l i).run in
        let s = at (served p l t) i in
        let s' = at (served p l (suc t)) i in
        let W = x.working i b (omega (arith, sv.each i b)) in
        let few : s' / C < suc (s / C) = (div-lt_iff_lt-mul (w.runs i b)).1
        (omega (arith, had_next i b, x.owed_is i b, ap (λ a. C * a) W.last)) in
        let many : s / C ≤ s' / C = div_mono (w.runs i b) (omega (arith, (endless_run p l).step t i b)) in
        omega arith

    pub kept_served : OnlyOwed (length l) jobs jobs' → KeptBefore p l (suc t) jobs'
    kept_served others = record {
      owed_is = λ i b. had_next i b ∙ x.owed_is i b;
      next_is = λ i b. ap (λ j. j.next) (others i b) ∙ x.next_is i b;
      working = λ i b h.
          let W = x.working i b (omega (arith, sv.each i b)) in
          let e = same_job i b h in
          record {
            last = ap suc e ∙ W.last;
            due_is = ap (λ j. j.due) (others i b) ∙ rw e W.due_is;
            key_is = ap (λ j. j.key) (others i b) ∙ rw e W.key_is;
          };
    }

  -- Misses are noted: a task is late by the kept numbers where it misses.
  module _ (timely : (i : ℕ) → i < length l → 0 < (task l i).deadline) (t : ℕ) (jobs : List Job)
      (x : KeptBefore p l t jobs) where
    late_misses : (i : ℕ) → i < length l → Late jobs t i → Miss l (endless p l) i t
    late_misses i b y =
        let W = x.working i b y.1 in
        let e : due (task l i) (present p l t i) ≡ t = sym W.due_is ∙ y.0 in
        rw e at
        (endless_miss p l w i (present p l t i) b (rw e ((div-lt_iff_lt-mul (w.runs i b)).0 (omega arith))))

    misses_late : (i : ℕ) → Miss l (endless p l) i t → Late jobs t i
    misses_late i m = (W.due_is ∙ ap (due τ) same ∙ m.due_then, some)
      where
        τ : Task
        τ = task l i

        k : ℕ
        k = m.which

        short : at (served p l t) i < suc k * τ.run
        short = rw m.due_then at (endless_late p l w i t m)

        out : k < before τ t
        out = (before_iff τ (w.live i m.listed) t k).1 (omega (arith, m.due_then, timely i m.listed))

        some : 0 < (job_of jobs i).owed
        some = omega (arith, x.owed_is i m.listed, short, mul-le-mul_left τ.run out)

        W : Working p l (before τ t) t i ((job_of jobs i).due) ((job_of jobs i).key)
        W = x.working i m.listed some

        few : present p l t i < suc k
        few = (div-lt_iff_lt-mul (w.runs i m.listed)).1 short

        same : present p l t i ≡ k
        same = omega (arith, W.last, few, out)

    pub first_miss : (n r : ℕ) → First (Late jobs t) (length l) r → r < length l → Clear p l n → t ≡ suc n → FirstMiss l (endless p l) r t
    first_miss n r f b clear e = record {
      miss = late_misses r b (f.holds b);
      none_sooner = λ j d q. clear j d (omega arith);
      none_lower = λ j q m. f.none_lower j q (misses_late j m);
    }

    pub clear_next : (n r : ℕ) → First (Late jobs t) (length l) r → length l ≤ r → Clear p l n → t ≡ suc n → Clear p l t
    clear_next n r f b clear e i d q m = elim (ℕ_discrete d t) [
      | yes g ↦ f.none_lower i (omega (arith, m.listed)) (misses_late i (rw g at m))
      | no g ↦ clear i d (omega arith) m
    ]

  -- Releases happen: nothing is owed any more to a task whose next job is released, or that job's forerunner would have missed.
  module _ (within : (i : ℕ) → i < length l → (task l i).deadline ≤ (task l i).period) (t : ℕ) (jobs : List Job)
      (x : KeptBefore p l t jobs) (clear : Clear p l t) where
    nothing_owed : (i : ℕ) → i < length l → (job_of jobs i).next ≡ t → (job_of jobs i).owed ≡ 0
    nothing_owed i b e = elim (dec_lt 0 ((job_of jobs i).owed)) [
      | no h ↦ omega arith
      | yes h ↦
          let τ = task l i in
          let k = present p l t i in
          let W = x.working i b h in
          let by : due τ k ≤ t = omega (arith, x.next_is i b, ap (release τ) W.last, within i b) in
          let short : at (served p l t) i < suc k * τ.run = (div-lt_iff_lt-mul (w.runs i b)).0 (omega arith) in
          absurd (clear i (due τ k) by (endless_miss p l w i k b (omega (arith, had_mono (endless_run p l) i (due τ k) t b by))))
    ]

    module _ (jobs' : List Job) (rel : (i : ℕ) → i < length l → Released p i (task l i) t (job_of jobs i) (job_of jobs' i)) where
      -- the four numbers of one task
      record One (i : ℕ) : Type 0 where
        owes : (job_of jobs' i).owed + at (served p l t) i ≡ (task l i).run * arrived (task l i) t
        goes_on : (job_of jobs' i).next ≡ release (task l i) (arrived (task l i) t)
        works : 0 < (job_of jobs' i).owed → Working p l (arrived (task l i) t) t i ((job_of jobs' i).due) ((job_of jobs' i).key)

      now : (i : ℕ) → i < length l → (job_of jobs i).next ≡ t → One i
      now i b e = record {
        owes = omega (arith, g, ap (λ j. j.owed) R, none, had, ap (λ z. τ.run * z) g);
        goes_on = omega (arith, ap (λ j. j.next) R, ap (λ z. z * τ.period) g, x.next_is i b);
        works = λ h. record {
          last = ap suc k ∙ sym g;
          due_is = ap (λ j. j.due) R ∙ ap (λ (r : ℕ). r + τ.deadline) its_release;
          key_is = ap (λ j. j.key) R ∙ ap (λ (r : ℕ). packed p (key_from p i τ.period τ.deadline r (r + τ.deadline))) its_release;
        };
      }
        where
          τ : Task
          τ = task l i

          R : job_of jobs' i ≡ released p i τ t (job_of jobs i)
          R = (rel i b).now e

          none : (job_of jobs i).owed ≡ 0
          none = nothing_owed i b e

          g : arrived τ t ≡ suc (before τ t)
          g = arrived_now τ (w.live i b) t (sym (x.next_is i b) ∙ e)

          had : at (served p l t) i ≡ τ.run * before τ t
          had = omega (arith, x.owed_is i b, none)

          k : present p l t i ≡ before τ t
          k = ap (λ z. z / τ.run) had ∙ mul-div_cancel_left (before τ t) (w.runs i b)

          its_release : t ≡ release τ (present p l t i)
          its_release = sym e ∙ x.next_is i b ∙ ap (release τ) (sym k)

      not_now : (i : ℕ) → i < length l → ((job_of jobs i).next ≡ t → ⊥) → One i
      not_now i b ne =
          let R = (rel i b).not_now ne in
          let g : arrived (task l i) t ≡ before (task l i) t =
          arrived_later (task l i) (w.live i b) t (λ e. ne (x.next_is i b ∙ e)) in
          record {
            owes = rw (g, R) (x.owed_is i b);
            goes_on = rw (g, R) (x.next_is i b);
            works = λ h. rw (g, R) (x.working i b (rw R at h));
          }

      one : (i : ℕ) → i < length l → One i
      one i b = elim (ℕ_discrete ((job_of jobs i).next) t) [ yes e ↦ now i b e | no e ↦ not_now i b e ]

      pub kept_released : KeptAt p l t jobs'
      kept_released = record { owed_is = λ i b. (one i b).owes; next_is = λ i b. (one i b).goes_on; working = λ i b. (one i b).works }

  -- The start: nothing is released before instant 0, and nothing is due at it.
  pub kept_start : (jobs : List Job) → ((i : ℕ) → i < length l → (job_of jobs i).owed ≡ 0) →
      ((i : ℕ) → i < length l → (job_of jobs i).next ≡ (task l i).offset) → KeptBefore p l 0 jobs
  kept_start jobs z o = record {
    owed_is = λ i b. omega (arith, z i b, (endless_run p l).start i b);
    next_is = λ i b. omega (arith, o i b);
    working = λ i b h. absurd (omega (arith, z i b));
  }

  pub clear_start : ((i : ℕ) → i < length l → 0 < (task l i).deadline) → Clear p l 0
  clear_start timely i d h m = omega (arith, m.due_then, timely i m.listed)
