-- `line` meets its contract: the name, number after number, and a newline.
use lib.ListN.{take}
use Rattle.decimal.specs.Laying.{OnPage}
use Rattle.report.proofs.Lines.{entries, spaced_number}
use Rattle.report.proofs.lay.line.Given as goal

abbrev pub invariant-loop-n : goal.invariant-loop-n
invariant-loop-n l = OnPage l.initial.page (entries spaced_number (take l.n-index l.numbers)) l.page
