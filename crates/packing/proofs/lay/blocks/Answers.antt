-- `blocks` meets its contract: block after block.
use Rattle.std.proofs.Common.{◌++◌}
use Rattle.packing.proofs.BlockRow.{laid_more}
use Rattle.packing.proofs.lay.blocks.Goals as goal

pub loop-i-preserved : goal.loop-i-preserved
loop-i-preserved c =
    let l = c.loop-i in
    let x = c.args in
    laid_more (x.parts.startup.now ++ x.parts.cycle.now) x.out.now l.i l.out c.block.new.out l.invariant c.block.ensures
