-- Texts as bytes.
use Rattle.std.specs.Prelude.{List, [] as none, ◌∷◌ as ◌before◌, ℕ}
use Prim.Native.Char.{code}
use Prim.Native.String.{String, [], ◌∷◌}

-- a text of plain characters, each its code
abbrev pub bytes : String → List ℕ
bytes [] = none
bytes (c ∷ s) = code c before bytes s

abbrev pub newline : ℕ
newline = 10

abbrev pub space : ℕ
space = 32
