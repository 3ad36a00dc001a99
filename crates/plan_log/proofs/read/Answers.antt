-- `read` meets its contract: the plan at the end of what is kept.
use Rattle.std.proofs.Common.{subst, List, ℕ}
use Rattle.format.specs.Newest.{newest_of}
use Rattle.format.proofs.CutBack.{kept_is_front}
use Rattle.unpacking.specs.Unpacking.{ReadOff}
use Rattle.plan_log.proofs.read.Goals as goal

pub returns : goal.returns
returns c =
    let x = c.args in
    subst (λ (l : List ℕ). ReadOff x.startup.now x.cycle.now c.plan.result c.plan.new.startup c.plan.new.cycle (newest_of l))
    (kept_is_front x.log.now c.kept-end.result c.kept-end.ensures) c.plan.ensures
