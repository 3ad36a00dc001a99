-- How large the numbers of a report are, for a list that is not refused.
use mathlib.Core.List.{List}
use Prim.Native.Nat.{ℕ, zero, suc, ◌*◌, ◌≤◌, ◌<◌}
use native.Mathlib.Nat.{mul-le-mul_right}
use native.Mathlib.Omega.{arith}
use lib.ListN.{length}
use Rattle.task.specs.declared.Task.{Task}
use Rattle.task.specs.Limits.{most_tasks, latest_offset, longest_hyperperiod}
use Rattle.task.specs.Tasks.{task, latest, hyperperiod, sum, turns, want, load}
use Rattle.task.proofs.Refusing.{Passed}
use Rattle.task.proofs.Offsets.{latest_least}
use Rattle.schedule.proofs.Admitted.{is_sound}

sum_most : (f : ℕ → ℕ) (c n : ℕ) → ((i : ℕ) → i < n → f i ≤ c) → sum f n ≤ c * n
sum_most f c zero h = omega arith
sum_most f c (suc n) h = omega (arith, sum_most f c n (λ i b. h i (omega arith)), h n (omega arith))

module _ {l : List Task} {startup cycle : ℕ} (ok : Passed l startup cycle) where
  pub latest_early : latest l ≤ latest_offset
  latest_early = latest_least l latest_offset (λ i b. (ok.fine i b).soon)

  -- no task wants more than each slot
  want_most : (i : ℕ) → i < length l → want l (hyperperiod l) i ≤ longest_hyperperiod
  want_most i b =
      let fine = ok.fine i b in
      let C : (task l i).run ≤ (task l i).period = omega (arith, fine.fits, fine.within) in
      omega (arith, mul-le-mul_right (turns l (hyperperiod l) i) C, (is_sound ok).whole i b, ok.short)

  pub load_most : load l (hyperperiod l) ≤ longest_hyperperiod * most_tasks
  load_most = omega (arith, sum_most (want l (hyperperiod l)) longest_hyperperiod (length l) want_most, ok.few)
