-- The first tasks are not refused, so the list's refusal is that of the rest.
use Rattle.std.proofs.Common.{◌≡◌, drop}
use Rattle.task.specs.Checks.{tasks_refusal}
use Rattle.admission.proofs.check_all.Given as goal

abbrev pub invariant-loop-number : goal.invariant-loop-number
invariant-loop-number l = tasks_refusal l.card 0 l.tasks ≡ tasks_refusal l.card l.number (drop l.number l.tasks)
