-- `digits` meets its contract: the value so far, which is no more than the limit, is that of the digits so far.
use mathlib.Core.Path.{◌≡◌}
use Prim.Native.Nat.{◌≤◌}
use lib.ListN.{drop}
use Rattle.line.specs.Lines.{largest_number, value_on}
use Rattle.line.proofs.number.digits.Given as goal

abbrev pub invariant-loop-b : goal.invariant-loop-b
invariant-loop-b l = (l.v ≤ largest_number) × (value_on 0 l.field ≡ value_on l.v (drop l.b-index l.field))
