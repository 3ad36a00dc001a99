-- `plan` meets its contract: there is no room for plan and trailer, or they are laid. The check finds the rest.
use Rattle.std.proofs.Common.{rules, arith, ◌+◌, ◌*◌}
use Rattle.packing.proofs.Placing.{refused_room, placed}
use Rattle.packing.proofs.plan.Goals as goal

pub returns-then-saturating_sub-n : goal.returns-then-saturating_sub-n
returns-then-saturating_sub-n c =
    let x = c.args in
    refused_room x.log.now x.at x.startup.now x.cycle.now (64 * c.blocks_for-count.result + 64) (search rules) (omega (arith, c.saturating_sub.ensures))

pub returns : goal.returns
returns c =
    let x = c.args in
    placed x.log.now x.at x.startup.now x.cycle.now c.blocks_for-count.result _ _ (64 * c.blocks_for-count.result + 64) c.blocks-2.new.out c.trailer.new.out
    (search rules) (omega arith) (omega arith) (omega arith) (search rules) (search rules) (omega (arith, c.saturating_sub.ensures)) c.blocks-2.ensures (search rules)
