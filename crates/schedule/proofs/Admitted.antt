-- A list that is not refused is what the theory asks for.
use mathlib.Core.List.{List}
use Prim.Native.Nat.{ℕ, ◌+◌, ◌≤◌, ◌<◌}
use native.Mathlib.Nat.{le_of_dvd}
use native.Mathlib.Omega.{arith}
use lib.ListN.{length}
use Rattle.task.specs.declared.Task.{Task}
use Rattle.task.specs.Tasks.{task, latest, hyperperiod}
use Rattle.task.proofs.Refusing.{Passed}
use Rattle.task.proofs.Hyperperiods.{hyperperiod_is, hyperperiod_whole}
use Rattle.task.proofs.Offsets.{latest_most}
use Rattle.schedule.specs.Job.{due}
use Rattle.schedule.proofs.Run.{Sound}

module _ {l : List Task} {startup cycle : ℕ} (ok : Passed l startup cycle) where
  live : (i : ℕ) → i < length l → 0 < (task l i).period
  live i b = (ok.fine i b).live

  pub is_sound : Sound l (hyperperiod l)
  is_sound = record {
    some = (hyperperiod_is l live).some;
    whole = hyperperiod_whole l live;
    runs = λ i b. (ok.fine i b).runs;
    live = live;
  }

  pub offsets : (i : ℕ) → i < length l → (task l i).offset ≤ latest l
  offsets = latest_most l

  -- no first job is due after M + H
  pub first_due : (i : ℕ) → i < length l → due (task l i) 0 ≤ latest l + hyperperiod l
  first_due i b =
      omega (arith, offsets i b, (ok.fine i b).within, le_of_dvd (hyperperiod_is l live).some ((hyperperiod_is l live).divided i b))
