-- The measure is n.
use Rattle.decimal.proofs.+number.Given as goal

abbrev pub decreases-number : goal.decreases-number
decreases-number l = l.n
