-- `entries` meets its contract: entry after entry, and a newline.
use lib.ListN.{take}
use Rattle.decimal.specs.Laying.{Laid}
use Rattle.report.specs.Report.{spaced}
use Rattle.report.proofs.Lines.{entries}
use Rattle.report.proofs.lay.entries.Given as goal

abbrev pub invariant-loop-b : goal.invariant-loop-b
invariant-loop-b l = Laid l.initial.next (entries spaced (take l.b-index l.slots)) l.initial.out l.next l.out
