-- `hand` meets its contract: a buffer that is too short. The check finds the rest.
use Rattle.std.proofs.Common.{length, ◌/◌, arith}
use Rattle.format.specs.Newest.{carried}
use Rattle.unpacking.proofs.Cutting.{carried_whole}
use Rattle.unpacking.proofs.Handing.{short_startup, short_cycle}
use Rattle.unpacking.proofs.hand.Goals as goal

pub returns-then-startup-lengths : goal.returns-then-startup-lengths
returns-then-startup-lengths c =
    let x = c.args in
    short_startup x.startup.now x.cycle.now (carried (length x.blocks.now / 64) x.blocks.now) x.lengths.startup x.lengths.cycle
    (omega (arith, c.requires, carried_whole x.blocks.now)) (omega arith)

pub returns-then-cycle-lengths : goal.returns-then-cycle-lengths
returns-then-cycle-lengths c =
    let x = c.args in
    short_cycle x.startup.now x.cycle.now (carried (length x.blocks.now / 64) x.blocks.now) x.lengths.startup x.lengths.cycle
    (omega (arith, c.requires, carried_whole x.blocks.now)) (omega arith)
