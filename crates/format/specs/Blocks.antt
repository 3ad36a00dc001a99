-- A plan as the log's blocks. Request #104.
use Rattle.std.specs.Prelude.{List, [], ◌∷◌, ◌++◌, ℕ, zero, suc, ◌+◌, ◌-◌, ◌/◌, ◌%◌, length, take, drop, replicate}

-- a block has 64 bytes: the first says of which kind it is, the other 63 carry
abbrev pub block_length : ℕ
block_length = 64

abbrev pub carried_length : ℕ
carried_length = 63

abbrev pub plan_kind : ℕ
plan_kind = 1

abbrev pub trailer_kind : ℕ
trailer_kind = 2

-- the first n bytes of l, the rest 0
abbrev pub padded : ℕ → List ℕ → List ℕ
padded n l = take n l ++ replicate (n - length l) 0

-- n blocks whose first byte is 1 and whose other 63 bytes carry the entries
abbrev pub plan_blocks : ℕ → List ℕ → List ℕ
plan_blocks zero entries = []
plan_blocks (suc n) entries = plan_kind ∷ padded carried_length entries ++ plan_blocks n (drop carried_length entries)

-- how many blocks so many entries take: their number divided by 63, rounded up
abbrev pub blocks_for : ℕ → ℕ
blocks_for n = (n + (carried_length - 1)) / carried_length

-- a 16-bit number, low byte first
abbrev pub two_bytes : ℕ → List ℕ
two_bytes n = n % 256 ∷ n / 256 ∷ []

abbrev pub largest_length : ℕ
largest_length = 65535

-- first byte 2, then how many plan blocks to go back, startup length and cycle length, the rest 0
abbrev pub trailer : ℕ → ℕ → ℕ → List ℕ
trailer blocks startup cycle = padded block_length (trailer_kind ∷ (two_bytes blocks ++ two_bytes startup ++ two_bytes cycle))

-- a plan: the blocks that carry the startup entries, then the cycle entries, and after them the trailer
abbrev pub plan_bytes : List ℕ → List ℕ → List ℕ
plan_bytes startup cycle =
    plan_blocks (blocks_for (length startup + length cycle)) (startup ++ cycle)
    ++ trailer (blocks_for (length startup + length cycle)) (length startup) (length cycle)
