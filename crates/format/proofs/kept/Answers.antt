-- `kept` meets its contract: back from the last whole block, a block at a time.
use Rattle.std.proofs.Common.{rules, arith}
use Rattle.std.proofs.lemmas.Grind.{common_steps}
use Rattle.format.proofs.FromBack.{first_turn, next_turn}
use Rattle.format.proofs.kept.Goals as goal

pub loop-block-init : goal.loop-block-init
loop-block-init c = first_turn c.args.log.now _ _ (grind (arith, common_steps)) (search rules)

pub loop-block-preserved : goal.loop-block-preserved
loop-block-preserved c =
    let s = c.in-Some.ensures.steps in
    next_turn c.args.log.now _ _ c.in-Some.block.now _ _ c.loop-block.end c.loop-block.invariant s.0 s.2.0 s.2.1 (search rules)
