use Rattle.std.proofs.Common.{◌-◌, ◌≤◌, length}
use Rattle.check_list.proofs.read_full.Given as goal

abbrev pub invariant-loop-n : goal.invariant-loop-n
invariant-loop-n g l = l.n ≤ length l.input

abbrev pub decreases-loop-n : goal.decreases-loop-n
decreases-loop-n g l = length l.input - l.n
