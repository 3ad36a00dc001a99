-- `sholakpite_check_tasks_card` meets its contract: the copy holds the list.
use Rattle.task.proofs.Copied.{held_array}
use Rattle.sholakpite.proofs.sholakpite_check_tasks_card.Goals as goal

pub returns : goal.returns
returns c = c.answered.ensures c.args.list.now (rw c.load.ensures (held_array c.args.list.now))
