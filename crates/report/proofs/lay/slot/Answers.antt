-- `slot` meets its contract: a space, and a dash or the number.
use native.Mathlib.Omega.{arith}
use borrow.Author.Tests.{ne_eqb}
use Rattle.schedule.specs.Job.{idle}
use Rattle.answer.specs.Tables.{byte_of}
use Rattle.decimal.proofs.Laying.{laid_both}
use Rattle.report.proofs.lay.slot.Goals as goal

pub returns : goal.returns
returns c =
    rw (ne_eqb c.args.b (byte_of idle) c.if-b-eq-IDLE.false) (laid_both (omega (arith, c.well_formed)) c.byte-next.ensures c.number.ensures)
