-- `on_small` meets its contract: the table passes its test, which is computed here, so it has exactly the divisors of 240.
use Rattle.std.proofs.Common.{◌≡◌, ◌∙◌, refl, List, ℕ}
use Rattle.card.specs.Table.{is_among}
use Rattle.card.proofs.Table.{low, exact, passes, rule}
use Rattle.card.proofs.on_small.Goals as goal

-- the table of the source, and what was found in it
abbrev searched : (c : goal.After-among) → (table : List ℕ) × (c.among.result ≡ is_among table c.args.period)
searched c = (_, c.among.ensures)

pub returns : goal.returns
unfolding passes low exact is_among
returns c = (searched c).1 ∙ rule (searched c).0 refl c.args.period
