-- `plan` meets its contract: what is handed over is the plan before the last block.
use Rattle.std.proofs.Common.{subst}
use Rattle.format.specs.Newest.{Newest}
use Rattle.unpacking.specs.Unpacking.{ReadOff}
use Rattle.unpacking.proofs.Handing.{read_off}
use Rattle.unpacking.proofs.plan.Goals as goal

pub returns : goal.returns
returns c =
    let x = c.args in
    let n = c.in_ok-blocks.lengths in
    subst (λ (n : Newest). ReadOff x.startup.now x.cycle.now c.hand.result c.hand.new.startup c.hand.new.cycle n)
    (read_off x.log.now _ _ _ n.startup n.cycle c.in-Some.ensures.cases c.in_ok-blocks.ensures)
    c.hand.ensures
