-- `field` meets its contract: a space, and the number.
use native.Mathlib.Omega.{arith}
use Rattle.decimal.proofs.Laying.{page_both}
use Rattle.writer.proofs.lay.field.Goals as goal

pub returns : goal.returns
returns c = page_both (omega arith) c.byte.ensures c.number.ensures
