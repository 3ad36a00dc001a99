-- `whole` is the least common multiple of the periods so far, and within the limit.
use Rattle.std.proofs.Common.{◌≡◌, ◌≤◌, take}
use Rattle.task.specs.Limits.{longest_hyperperiod}
use Rattle.task.specs.Tasks.{hyperperiod}
use Rattle.admission.proofs.measure.hyperperiod.Given as goal

abbrev pub invariant-loop-task : goal.invariant-loop-task
invariant-loop-task l = (l.whole ≤ longest_hyperperiod) × (l.whole ≡ hyperperiod (take l.task-index l.tasks))
