-- Lines, fields and numbers of a text. Request #101.
use Rattle.std.specs.Prelude.{Bool, true, false, ◌&&◌, List, [], ◌∷◌, ℕ, ◌+◌, ◌*◌, ◌-◌, eqb, leb, ltb, Option, Some, None}
use Rattle.decimal.specs.Decimal.{nought, digit}

-- the largest number that is read
abbrev pub largest_number : ℕ
largest_number = 999999

-- a mark begins a new part, another byte stands in front of the part that follows
abbrev pub begin : Bool → ℕ → List (List ℕ) → List (List ℕ)
begin true b parts = [] ∷ parts
begin false b [] = (b ∷ []) ∷ []
begin false b (part ∷ parts) = (b ∷ part) ∷ parts

-- what stands between marks, and before the first and after the last: one part more than there are marks
abbrev pub parts : ℕ → List ℕ → List (List ℕ)
parts mark [] = [] ∷ []
parts mark (b ∷ s) = begin (eqb b mark) b (parts mark s)

abbrev pub same : List ℕ → List ℕ → Bool
same [] [] = true
same [] (c ∷ t) = false
same (b ∷ s) [] = false
same (b ∷ s) (c ∷ t) = eqb b c && same s t

abbrev pub is_digit : ℕ → Bool
is_digit b = leb nought b && leb b (digit 9)

abbrev pub number_if : Bool → Option ℕ → Option ℕ
number_if true n = n
number_if false n = None

-- the number that v, and digits after it, say
abbrev pub value_on : ℕ → List ℕ → Option ℕ
value_on v [] = Some v
value_on v (b ∷ s) = number_if (is_digit b) (value_on (v * 10 + (b - nought)) s)

abbrev pub within : Option ℕ → Option ℕ
within (Some v) = number_if (leb v largest_number) (Some v)
within None = None

-- 0 to 999,999 without leading zeros: of several digits the first is above 0
abbrev pub number_of : List ℕ → Option ℕ
number_of [] = None
number_of (b ∷ []) = within (value_on 0 (b ∷ []))
number_of (b ∷ c ∷ s) = number_if (ltb nought b) (within (value_on 0 (b ∷ c ∷ s)))
