-- Where parts and fields begin and end: for the contracts of the functions that find them. No promise needs it.
use Rattle.std.specs.Prelude.{Bool, true, false, List, [], ◌∷◌, ℕ, suc, ◌+◌, eqb, ltb, length, take, drop, Option, Some, None}
use Rattle.decimal.specs.Bytes.{space}
use Rattle.line.specs.declared.field.Field.{Field}
use Rattle.line.specs.Lines.{number_of}

abbrev pub suc_unless : Bool → ℕ → ℕ
suc_unless true n = 0
suc_unless false n = suc n

-- how many bytes stand before the first mark
abbrev pub until : ℕ → List ℕ → ℕ
until mark [] = 0
until mark (b ∷ s) = suc_unless (eqb b mark) (until mark s)

abbrev pub field_if : Bool → Option Field → Option Field
field_if true field = field
field_if false field = None

abbrev pub ends_at : Option ℕ → ℕ → Option Field
ends_at (Some v) end = Some (record { number = v; end = end })
ends_at None end = None

-- the number that `rest` begins with; `rest` begins at `from`
abbrev pub field_from : List ℕ → ℕ → Option Field
field_from rest from = ends_at (number_of (take (until space rest) rest)) (from + until space rest)

-- the number after the space at `at`, and where it ends
abbrev pub field_at : List ℕ → ℕ → Option Field
field_at line at = field_if (ltb at (length line)) (field_from (drop (suc at) line) (suc at))
