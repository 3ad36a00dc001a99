-- `tasks` meets its contract: line after line, with the tasks so far in the array.
use Prim.Native.Nat.{◌+◌}
use Rattle.std.specs.Iterator.Adapters.{enumerate_source, enumerate_count}
use Rattle.std.specs.Slice.Iter.{split_inclusive_rest}
use Rattle.text.proofs.Reading.{Reads}
use Rattle.text.proofs.tasks.Given as goal

abbrev pub invariant-loop-i : goal.invariant-loop-i
invariant-loop-i l =
    Reads l.s l.card l.policy l.first (split_inclusive_rest (enumerate_source l.i-iterator)) (l.first + enumerate_count l.i-iterator) l.tasks
