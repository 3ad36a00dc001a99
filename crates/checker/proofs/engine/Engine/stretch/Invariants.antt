-- `stretch` meets its contract: the slots of the entries so far are given.
use mathlib.Core.Path.{◌≡◌}
use Prim.Native.Nat.{◌+◌}
use lib.ListN.{length}
use Rattle.state.specs.State.{Found}
use Rattle.state.proofs.Stretching.{Given}
use Rattle.checker.proofs.engine.Engine.stretch.Given as goal

abbrev pub invariant-loop-entry : goal.invariant-loop-entry
invariant-loop-entry l = record {
  found : Found (length l.self.tasks.now) l.now.chosen (Given l.self.policy l.self.tasks.now l.fn.start.instant l.entry-index l.initial.table l.table l.now.idle l.now.preemptions l.jobs);
  reached : l.now.instant ≡ l.fn.start.instant + l.entry-index;
}
