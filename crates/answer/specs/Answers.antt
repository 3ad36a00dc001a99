-- The answers as the paper writes them: its number and values for each case. Document 01, "What comes back".
use Rattle.std.specs.Prelude.{ℕ}
use Rattle.refusal.specs.Refusals.{number_of}
use Rattle.answer.specs.declared.Plan.{Plan}
use Rattle.answer.specs.declared.Answer.{Answer}
use Rattle.answer.specs.declared.Answer.TheVariants.{Refused, Overloaded, Missed, Feasible}

-- refused number, task; overloaded L, H; missed task, d; feasible
pub data Row : Type 0 where
  refused : ℕ → ℕ → Row
  overloaded : ℕ → ℕ → Row
  missed : ℕ → ℕ → Row
  feasible : Plan → Row

abbrev pub row : Answer → Row
row (Refused r i) = refused (number_of r) i
row (Overloaded a b) = overloaded a b
row (Missed i d) = missed i d
row (Feasible q) = feasible q
