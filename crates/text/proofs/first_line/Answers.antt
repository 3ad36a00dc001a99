-- `first_line` meets its contract: the bytes to the first newline, and those after it.
use Rattle.text.proofs.Reading.{by_torn, by_line}
use Rattle.text.proofs.first_line.Goals as goal

pub returns-then-s-end : goal.returns-then-s-end
returns-then-s-end c = by_torn c.args.s.now c.before-end.result c.before-end.ensures c.if-s-end.true

pub returns : goal.returns
returns c = by_line c.args.s.now c.before-end.result c.before-end.ensures c.if-s-end.false
