-- `measure::hyperperiod` meets its contract: where the fold ends early, the periods after it leave it above the limit.
use Rattle.std.proofs.Common.{arith}
use Rattle.task.specs.Limits.{longest_hyperperiod}
use Rattle.admission.proofs.Listed.{goes_on}
use Rattle.admission.proofs.measure.hyperperiod.Goals as goal

pub loop-task-preserved : goal.loop-task-preserved
loop-task-preserved c =
    goes_on c.args.tasks.now c.requires longest_hyperperiod c.loop-task.task-index c.loop-task.whole (omega arith) c.loop-task.invariant.1 c.lcm.result c.lcm.ensures _ cc
