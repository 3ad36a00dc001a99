-- Which periods a card can time. Request #105.
use Rattle.std.specs.Prelude.{Bool, true, ℕ, ◌%◌, eqb}
use Rattle.card.specs.declared.Card.{Card}
use Rattle.card.specs.declared.Card.TheVariants.{Wide, Small}

-- the longest period that a small card can time
abbrev pub longest_timed : ℕ
longest_timed = 240

-- T divides it, in the library's sense (`divisor_divides`)
abbrev pub is_divisor : ℕ → Bool
is_divisor T = eqb (longest_timed % T) 0

-- a wide card can time every period, a small one the divisors of 240
abbrev pub is_timed : Card → ℕ → Bool
is_timed Wide T = true
is_timed Small T = is_divisor T
