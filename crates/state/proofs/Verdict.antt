-- From two stretches of slots to the answer: the startup part from 0 on, and the cycle from M + H on.
use mathlib.Core.Path.{◌≡◌, refl, sym, ap, ◌∙◌}
use mathlib.Core.List.{List, ◌++◌}
use Prim.Native.Nat.{ℕ, ◌+◌, ◌-◌, ◌≤◌, ◌<◌, min}
use native.Mathlib.Omega.{arith}
use lib.ListN.{length, take, drop}
use lib.Seq.{length-take-le}
use Rattle.std.proofs.Common.{append_assoc}
use Rattle.std.proofs.lemmas.List.{take-append-drop, drop-append-le}
use Rattle.card.specs.declared.Card.TheVariants.{Wide}
use Rattle.task.specs.declared.Task.{Task}
use Rattle.task.specs.Tasks.{latest, hyperperiod, load}
use Rattle.task.specs.Limits.{latest_offset}
use Rattle.task.proofs.Offsets.{latest_least}
use Rattle.task.proofs.Refusing.{Passed, passed}
use Rattle.schedule.specs.declared.Policy.{Policy}
use Rattle.schedule.specs.Job.{Choice}
use Rattle.schedule.specs.Endless.{endless}
use Rattle.schedule.proofs.Admitted.{is_sound, offsets}
use Rattle.schedule.proofs.Schedule.{endless_never}
use Rattle.answer.specs.declared.Plan.{Plan}
use Rattle.answer.specs.Answers.{missed, feasible}
use Rattle.answer.specs.Tables.{slots, filled, plan_of}
use Rattle.answer.specs.Promise.{Permitted}
use Rattle.state.specs.declared.Job.{Job}
use Rattle.state.specs.Engine.{plenty, Stretched, CutOff, Ready}

-- M, H, L and four counts
abbrev pub plan_with : ℕ → ℕ → ℕ → ℕ → ℕ → ℕ → ℕ → Plan
plan_with M H L idle idle' preemptions preemptions' = record {
  latest = M;
  hyperperiod = H;
  load = L;
  startup_idle = idle;
  cycle_idle = idle';
  startup_preemptions = preemptions;
  cycle_preemptions = preemptions';
}

-- What is written to the first n entries of a buffer leaves the others as they were.
module _ (n : ℕ) (buffer : List ℕ) (room : n ≤ length buffer) where
  size : length (take n buffer) ≡ n
  size = length-take-le n buffer room

  part_filled : (σ : Choice) (t k : ℕ) → k ≤ n → filled σ t k (take n buffer) ++ drop n buffer ≡ filled σ t k buffer
  part_filled σ t k h =
      let rest : drop k (take n buffer) ++ drop n buffer ≡ drop k buffer =
      sym (drop-append-le k (take n buffer) (drop n buffer) (omega (arith, size))) ∙ ap (drop k) (take-append-drop n buffer) in
      append_assoc (slots σ t k) (drop k (take n buffer)) (drop n buffer) ∙ ap (λ z. slots σ t k ++ z) rest

  pub stretched_part : {p : Policy} {l : List Task} {t idle preemptions chosen : ℕ} {part : List ℕ} {jobs : List Job} →
      Stretched p l t (length (take n buffer)) (take n buffer) part idle preemptions jobs chosen →
      Stretched p l t n buffer (part ++ drop n buffer) idle preemptions jobs chosen
  stretched_part {p} {l} {t} {idle} {preemptions} {chosen} {part} {jobs} x =
      let s : Stretched p l t n (take n buffer) part idle preemptions jobs chosen = rw size at x in
      record {
        goes_on = s.goes_on;
        written = ap (λ z. z ++ drop n buffer) s.written ∙ part_filled (endless p l) t n (omega arith);
        idles = s.idles;
        switches = s.switches;
      }

  pub cut_off_part : {p : Policy} {l : List Task} {t i d : ℕ} {part : List ℕ} → CutOff p l t (length (take n buffer)) (take n buffer) part i d →
      CutOff p l t n buffer (part ++ drop n buffer) i d
  cut_off_part {p} {l} {t} {d = d} x = record {
    misses = x.misses;
    later = x.later;
    within = omega (arith, x.within, size);
    written = ap (λ z. z ++ drop n buffer) x.written ∙ part_filled (endless p l) t (d - t) (omega (arith, x.within, size));
  }

module _ {l : List Task} {startup cycle : List ℕ} {M H L : ℕ} (R : Ready l startup cycle M H L) where
  ok : Passed l (length startup) (length cycle)
  ok = passed Wide l (length startup) (length cycle) R.no_refusal

  -- nothing wraps, and the tables have room
  pub small : M + H + H < plenty
  small = omega (arith, R.is_latest, R.is_hyperperiod, ok.short, latest_least l latest_offset (λ i b. (ok.fine i b).soon))

  pub startup_fits : M + H ≤ length startup
  startup_fits = omega (arith, R.is_latest, R.is_hyperperiod, ok.startup_fits)

  pub cycle_fits : H ≤ length cycle
  cycle_fits = omega (arith, R.is_hyperperiod, ok.cycle_fits)

  room : load l (hyperperiod l) ≤ hyperperiod l
  room = omega (arith, R.is_load, R.is_hyperperiod, R.room)

  lead : M + H ≡ latest l + hyperperiod l
  lead = omega (arith, R.is_latest, R.is_hyperperiod)

  pub missed_first : {p : Policy} {startup' : List ℕ} {i d : ℕ} → CutOff p l 0 (M + H) startup startup' i d →
      Permitted Wide p l startup cycle (missed i d) startup' cycle
  missed_first {d = d} s =
      let e : min d (latest l + hyperperiod l) ≡ d - 0 = omega (arith, s.within, lead) in
      let f : d - (latest l + hyperperiod l) ≡ 0 = omega (arith, s.within, lead) in
      record {
        no_refusal = R.no_refusal;
        room = room;
        first_miss = s.misses;
        buffers = record { startup_filled = rw e s.written; cycle_filled = rw f refl };
      }

  module _ {p : Policy} {startup' : List ℕ} {idle preemptions chosen : ℕ} {jobs : List Job}
      (s : Stretched p l 0 (M + H) startup startup' idle preemptions jobs chosen) where
    first_filled : startup' ≡ filled (endless p l) 0 (latest l + hyperperiod l) startup
    first_filled = rw lead at s.written

    pub missed_later : {cycle' : List ℕ} {i d : ℕ} → CutOff p l (M + H) H cycle cycle' i d → Permitted Wide p l startup cycle (missed i d) startup' cycle'
    missed_later {d = d} r =
        let f : min d (latest l + hyperperiod l) ≡ latest l + hyperperiod l = omega (arith, r.later, lead) in
        record {
          no_refusal = R.no_refusal;
          room = room;
          first_miss = r.misses;
          buffers = record { startup_filled = rw f first_filled; cycle_filled = rw lead at r.written };
        }

    module _ {cycle' : List ℕ} {idle' preemptions' chosen' : ℕ} {jobs' : List Job}
        (r : Stretched p l (M + H) H cycle cycle' idle' preemptions' jobs' chosen') where
      -- the plan with these counts is the list's
      pub counted : plan_with M H L idle idle' preemptions preemptions' ≡ plan_of p l
      counted = rw (s.idles, r.idles, s.switches, r.switches, lead, R.is_latest, R.is_hyperperiod, R.is_load) refl

      pub never_missed : Permitted Wide p l startup cycle (feasible (plan_with M H L idle idle' preemptions preemptions')) startup' cycle'
      never_missed = record {
        no_refusal = R.no_refusal;
        room = room;
        no_miss = endless_never p l (is_sound ok) (latest l) (offsets ok) room
            (λ k f h. r.goes_on.clear k f (omega (arith, R.is_latest, R.is_hyperperiod)));
        is_plan = counted;
        buffers = record { startup_filled = first_filled; cycle_filled = cycle_filled };
      }
        where
          cycle_filled : cycle' ≡ filled (endless p l) (latest l + hyperperiod l) (hyperperiod l) cycle
          cycle_filled = rw (lead, R.is_hyperperiod) at r.written
