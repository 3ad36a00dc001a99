-- When a preemption is counted: the task whose job is not done after a slot is not the one that the next slot goes to.
use mathlib.Core.Path.{◌≡◌, refl, sym, ap, ◌∙◌}
use mathlib.Core.List.{List}
use mathlib.Core.Bool.{not, ◌&&◌}
use Prim.Native.Nat.{ℕ, suc, ◌*◌, ◌≤◌, ◌<◌}
use native.Mathlib.Nat.{mul-le-mul_left}
use native.Mathlib.Decide.{dec_lt, ℕ_discrete}
use native.Mathlib.Omega.{arith}
use lib.Dec.{eqb, ltb}
use lib.ListN.{length}
use borrow.Author.Tests.{lt-ltb, le-ltb, eq-eqb, ne_eqb}
use Rattle.task.specs.declared.Task.{Task}
use Rattle.task.specs.Tasks.{task}
use Rattle.schedule.specs.declared.Policy.{Policy}
use Rattle.schedule.specs.Job.{had}
use Rattle.schedule.specs.Endless.{endless, pick_at}
use Rattle.schedule.proofs.Sums.{one_eq}
use Rattle.schedule.proofs.Arrivals.{up_to_mono}
use Rattle.schedule.proofs.Run.{Sound, Run}
use Rattle.schedule.proofs.Chosen.{had_by, endless_run}
use Rattle.schedule.proofs.Keys.{ahead_of}
use Rattle.schedule.proofs.Jobs.{short_iff}
use Rattle.schedule.proofs.Schedule.{endless_slots}
use Rattle.answer.specs.Tables.{another, preempts}
use Rattle.state.specs.declared.Job.{Job}
use Rattle.state.specs.State.{job_of, present, KeptAt, Served}
use Rattle.state.proofs.Moves.{had_next, same_job}

module _ (p : Policy) {l : List Task} {H : ℕ} (w : Sound l H) (t : ℕ) (jobs jobs' : List Job) (r : ℕ)
    (x : KeptAt p l t jobs) (sv : Served (length l) (pick_at p l t) jobs jobs' r) where
  R : Run l (ahead_of p l) (had_by p l) (pick_at p l)
  R = endless_run p l

  -- the job of slot t is short of its run time at t + 1 where slots are still owed to its task, and done where none are
  short : (b : pick_at p l t < length l) → 0 < (job_of jobs' (pick_at p l t)).owed →
      had (endless p l) (pick_at p l t) (present p l t (pick_at p l t)) (suc t) < (task l (pick_at p l t)).run
  short b h =
      let c = pick_at p l t in
      (short_iff p w R (endless_slots p l) c (present p l t c) (suc t) b).1
      (omega (
        arith,
        had_next p w t jobs jobs' r x sv c b,
        x.owed_is c b,
        ap (λ a. (task l c).run * a) (x.working c b (omega (arith, sv.each c b))).last,
      ))

  whole : (b : pick_at p l t < length l) → (job_of jobs' (pick_at p l t)).owed ≡ 0 →
      (task l (pick_at p l t)).run ≤ had (endless p l) (pick_at p l t) (present p l t (pick_at p l t)) (suc t)
  whole b h = elim (dec_lt (had (endless p l) c (present p l t c) (suc t)) (task l c).run) [
    | no q ↦ omega arith
    | yes q ↦ absurd (omega (
      arith,
      (short_iff p w R (endless_slots p l) c (present p l t c) (suc t) b).0 q,
      had_next p w t jobs jobs' r x sv c b,
      x.owed_is c b,
      ap (λ a. (task l c).run * a) (x.working c b (omega (arith, sv.each c b, one_eq c c refl))).last,
    ))
  ]
    where
      c : ℕ
      c = pick_at p l t

  -- an unfinished job waits for the next slot, so that slot is not idle
  goes_on : pick_at p l t < length l → 0 < (job_of jobs' (pick_at p l t)).owed → pick_at p l (suc t) < length l
  goes_on b h = elim (dec_lt (pick_at p l (suc t)) (length l)) [
    | yes q ↦ q
    | no q ↦ absurd (R.idle (suc t) c (omega arith) b (omega (
      arith,
      had_next p w t jobs jobs' r x sv c b,
      x.owed_is c b,
      mul-le-mul_left (task l c).run (up_to_mono (task l c).offset (task l c).period (w.live c b) t (suc t) (omega arith)),
    )))
  ]
    where
      c : ℕ
      c = pick_at p l t

  -- the next slot goes to another job exactly where it goes to another task
  other : pick_at p l t < length l → 0 < (job_of jobs' (pick_at p l t)).owed →
      another (pick_at p l t) (present p l t (pick_at p l t)) (endless p l (suc t)) ≡ not (eqb (pick_at p l t) (pick_at p l (suc t)))
  other b h = rw ((endless_slots p l).busy (suc t) (goes_on b h)) (elim (ℕ_discrete c (pick_at p l (suc t))) [
    | yes e ↦ rw (
      eq-eqb c (pick_at p l (suc t)) e,
      eq-eqb (present p l t c) (present p l (suc t) (pick_at p l (suc t)))
          (sym (same_job p w t jobs jobs' r x sv c b h) ∙ ap (present p l (suc t)) e),
    )
    | no e ↦ rw (ne_eqb c (pick_at p l (suc t)) e)
  ])
    where
      c : ℕ
      c = pick_at p l t

  pub preempted : preempts l (endless p l) (suc t) ≡ (ltb r (length l) && not (eqb r (pick_at p l (suc t))))
  preempted = go (dec_lt (pick_at p l t) (length l)) (dec_lt 0 ((job_of jobs' (pick_at p l t)).owed))
    where
      go : Dec (pick_at p l t < length l) → Dec (0 < (job_of jobs' (pick_at p l t)).owed) →
          preempts l (endless p l) (suc t) ≡ (ltb r (length l) && not (eqb r (pick_at p l (suc t))))
      go (no b) h =
          let e : r ≡ length l = sv.done (λ q. absurd (omega arith)) in
          rw ((endless_slots p l).rest t (omega arith), e, le-ltb (length l) (length l) (omega arith))
      go (yes b) (no h) =
          let e : r ≡ length l = sv.done (λ q. omega arith) in
          rw ((endless_slots p l).busy t b, e, le-ltb (length l) (length l) (omega arith), le-ltb _ _ (whole b (omega arith)))
      go (yes b) (yes h) =
          let e : r ≡ pick_at p l t = sv.left b h in
          rw ((endless_slots p l).busy t b, e, lt-ltb _ _ b, lt-ltb _ _ (short b h)) (other b h)
