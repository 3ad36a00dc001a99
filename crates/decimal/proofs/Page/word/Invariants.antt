-- `word` meets its contract: byte after byte.
use lib.ListN.{take}
use Rattle.decimal.specs.Laying.{OnPage}
use Rattle.decimal.proofs.Page.word.Given as goal

abbrev pub invariant-loop-b : goal.invariant-loop-b
invariant-loop-b l = OnPage l.initial.self (take l.b-index l.text) l.self
