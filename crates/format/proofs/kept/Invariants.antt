-- `kept` meets its contract: back from the last whole block, a block at a time.
use Rattle.std.specs.Slice.Exact.{rchunks_exact_rest, rchunks_exact_size}
use Rattle.format.proofs.FromBack.{Turn}
use Rattle.format.proofs.kept.Given as goal

abbrev pub invariant-loop-block : goal.invariant-loop-block
invariant-loop-block l = Turn l.log (rchunks_exact_rest l.block-iterator) (rchunks_exact_size l.block-iterator) l.end
