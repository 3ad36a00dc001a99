-- Numbers in decimal.
use Rattle.std.specs.Prelude.{List, [], ◌∷◌, ◌++◌, ℕ, zero, suc, ◌+◌, ◌/◌, ◌%◌}

-- the byte of digit 0
abbrev pub nought : ℕ
nought = 48

abbrev pub digit : ℕ → ℕ
digit d = nought + d

-- the digits of n, none for 0. A tenth of n is less than n, so n steps are enough
abbrev pub digits_in : ℕ → ℕ → List ℕ
digits_in zero n = []
digits_in (suc steps) zero = []
digits_in (suc steps) (suc n) = digits_in steps (suc n / 10) ++ (digit (suc n % 10) ∷ [])

-- a number without leading zeros (`decimal_small`, `decimal_step`)
abbrev pub decimal : ℕ → List ℕ
decimal zero = digit 0 ∷ []
decimal (suc n) = digits_in (suc n) (suc n)
