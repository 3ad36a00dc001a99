-- `blocks` meets its contract: block after block.
use Rattle.std.proofs.Common.{◌≡◌, ◌++◌}
use Rattle.packing.proofs.BlockRow.{LaidBlocks}
use Rattle.packing.proofs.lay.blocks.Given as goal

abbrev pub invariant-loop-i : goal.invariant-loop-i
invariant-loop-i l = l.out ≡ LaidBlocks (l.parts.startup.now ++ l.parts.cycle.now) l.initial.out l.i
