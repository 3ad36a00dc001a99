-- `check` meets its contract: the copy holds the list.
use Rattle.task.proofs.Copied.{held_array}
use Rattle.lent.proofs.check.Goals as goal

pub returns : goal.returns
returns c = c.check.ensures c.args.list.now (rw c.load.ensures (held_array c.args.list.now))
