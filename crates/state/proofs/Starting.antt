-- The engine's start: the releases at 0 happen, and slot 0 is chosen.
use mathlib.Core.List.{List}
use Prim.Native.Nat.{ℕ, ◌≤◌, ◌<◌}
use native.Mathlib.Decide.{dec_lt}
use native.Mathlib.Omega.{arith}
use lib.ListN.{length}
use Rattle.task.specs.declared.Task.{Task}
use Rattle.task.specs.Tasks.{task}
use Rattle.schedule.specs.declared.Policy.{Policy}
use Rattle.state.specs.declared.Job.{Job}
use Rattle.state.specs.State.{KeptAt, Picked, Fitting, AllReleased, First, Late}
use Rattle.state.specs.Engine.{NotRefused, Fresh, Instant}
use Rattle.state.proofs.Moves.{picked_is, kept_start, clear_start, kept_released}
use Rattle.state.proofs.Stepping.{ok, w, short_deadlines, fits}

module _ {l : List Task} {jobs : List Job} (N : NotRefused l) (f : Fresh l jobs) where
  timely : (i : ℕ) → i < length l → 0 < (task l i).deadline
  timely i b = omega (arith, ((ok N).fine i b).runs, ((ok N).fine i b).fits)

  pub fitting_start : Fitting l 0 jobs
  fitting_start = fits N jobs 0 (omega arith) (λ i b. omega (arith, f.nothing_owed i b))

  -- where nothing is owed nobody is late
  pub none_late : {t r : ℕ} → First (Late jobs t) (length l) r → length l ≤ r
  none_late {r = r} x = elim (dec_lt r (length l)) [
    | yes b ↦ absurd (omega (arith, (x.holds b).1, f.nothing_owed r b))
    | no b ↦ omega arith
  ]

  module _ {p : Policy} {jobs' : List Job} (rel : AllReleased p l 0 jobs jobs') where
    pub kept_first : KeptAt p l 0 jobs'
    kept_first =
        kept_released p (w N) (λ j d. ((ok N).fine j d).within) 0 jobs (kept_start p (w N) jobs f.nothing_owed f.first_next)
        (clear_start p (w N) timely) jobs' rel.each

    pub instant_first : {chosen : ℕ} → Picked jobs' (length l) chosen → Instant p l 0 jobs' chosen
    instant_first {chosen} k = record {
      not_refused = N;
      sized = rel.sized;
      kept = kept_first;
      clear = clear_start p (w N) timely;
      is_chosen = picked_is p (w N) 0 jobs' kept_first (short_deadlines N) chosen k;
    }
