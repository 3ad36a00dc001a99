-- The first line of what is left, and the bytes after it: for the contract of the function that finds them. No promise needs it.
use Rattle.std.specs.Prelude.{◌≡◌, List, [], ◌∷◌, ℕ, Option, Some, None}
use Rattle.std.specs.Borrow.{Bor}
use Rattle.decimal.specs.Bytes.{newline}
use Rattle.line.specs.Lines.{parts}

abbrev pub IsFirstLine : List ℕ → Option (Bor (List ℕ) × Bor (List ℕ)) → Type 0
IsFirstLine s None = parts newline s ≡ s ∷ []
IsFirstLine s (Some (line, rest)) = parts newline s ≡ line.now ∷ parts newline rest.now
