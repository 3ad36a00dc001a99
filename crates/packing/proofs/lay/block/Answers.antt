-- `block` meets its contract: the kind, what startup has left, what cycle has left, zeros.
use Rattle.packing.proofs.OneBlock.{block_laid}
use Rattle.packing.proofs.lay.block.Goals as goal

pub returns : goal.returns
returns c =
    block_laid c.args.parts.startup.now c.args.parts.cycle.now c.args.out.now c.args.from c.fill-next.result c.fill-next.new.dst c.requires
    c.fill-next.ensures.place c.fill-next.ensures.copied c.fill-end.result c.fill-end.new.dst (rw c.saturating_sub-rest.ensures at c.fill-end.ensures.place)
    (rw c.saturating_sub-rest.ensures at c.fill-end.ensures.copied) c.zeros.new.dst c.zeros.ensures
