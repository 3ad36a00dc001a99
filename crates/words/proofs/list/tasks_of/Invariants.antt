-- The array holds the first i tasks of the words.
use Rattle.std.proofs.Common.{◌≡◌}
use Rattle.task.specs.Arrays.{copied}
use Rattle.words.specs.Words.{tasks_of}
use Rattle.words.proofs.list.tasks_of.Given as goal

abbrev pub invariant-loop-i : goal.invariant-loop-i
invariant-loop-i l = l.own ≡ copied (tasks_of l.list) l.i
