-- `table` meets its contract: the name, and behind it the entries with the newline, on the same buffer.
use native.Mathlib.Omega.{arith}
use Rattle.decimal.proofs.Laying.{laid_both}
use Rattle.report.proofs.lay.table.Goals as goal

pub returns : goal.returns
returns c =
    record { same_buffer = c.word.ensures.same_buffer; laid = laid_both (omega arith) c.word.ensures.laid c.entries-page.ensures }
