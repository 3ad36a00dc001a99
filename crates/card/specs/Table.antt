-- A number among those of a table: for the contract of the function that looks it up. No promise needs it.
use Rattle.std.specs.Prelude.{Bool, List, ℕ, eqb}
use Rattle.std.specs.List.{list_any}

unfoldable pub is_among : List ℕ → ℕ → Bool
is_among table T = list_any (λ x. eqb x T) table
