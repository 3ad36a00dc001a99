-- The measure is the second number: each division leaves a smaller remainder.
use Rattle.divisor.proofs.+gcd.Given as goal

abbrev pub decreases-gcd : goal.decreases-gcd
decreases-gcd l = l.b
