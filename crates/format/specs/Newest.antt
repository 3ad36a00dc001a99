-- The newest plan of a log that is fully written. Request #104.
use Rattle.std.specs.Prelude.{Bool, true, cond, not, ◌&&◌, ◌||◌, List, [], ◌∷◌, ◌++◌, ℕ, zero, suc, ◌+◌, ◌-◌, ◌*◌, ◌/◌, eqb, ltb, length, take, drop, get_or}
use Rattle.format.specs.Blocks.{block_length, carried_length, plan_kind, trailer_kind, blocks_for}

-- how many of the first n blocks are left where they are cut back to just after the last trailer, or to nothing
abbrev pub blocks_kept : List ℕ → ℕ → ℕ
blocks_kept log zero = 0
blocks_kept log (suc n) = cond (eqb (get_or log (block_length * n) 0) trailer_kind) (suc n) (blocks_kept log n)

-- a part block is dropped
abbrev pub whole_blocks : List ℕ → ℕ
whole_blocks log = length log / block_length

-- a log cut back to just after its last trailer, or to nothing
abbrev pub kept : List ℕ → List ℕ
kept log = take (block_length * blocks_kept log (whole_blocks log)) log

-- a 16-bit number from place i on, low byte first
abbrev pub number_at : List ℕ → ℕ → ℕ
number_at bytes i = get_or bytes i 0 + 256 * get_or bytes (suc i) 0

-- the first n blocks are plan blocks
abbrev pub all_plan : ℕ → List ℕ → Bool
all_plan zero blocks = true
all_plan (suc n) blocks = eqb (get_or blocks 0 0) plan_kind && all_plan n (drop block_length blocks)

-- the bytes that the first n blocks carry
abbrev pub carried : ℕ → List ℕ → List ℕ
carried zero blocks = []
carried (suc n) blocks = take carried_length (drop 1 blocks) ++ carried n (drop block_length blocks)

abbrev pub all_zero : List ℕ → Bool
all_zero [] = true
all_zero (b ∷ bytes) = eqb b 0 && all_zero bytes

module _ (trailer : List ℕ) where
  abbrev pub block_count : ℕ
  block_count = number_at trailer 1

  abbrev pub startup_length : ℕ
  startup_length = number_at trailer 3

  abbrev pub cycle_length : ℕ
  cycle_length = number_at trailer 5

  abbrev pub entries_length : ℕ
  entries_length = startup_length + cycle_length

  abbrev pub wrong_count : Bool
  wrong_count = not (eqb block_count (blocks_for entries_length))

  abbrev pub nonzero_rest : Bool
  nonzero_rest = not (all_zero (drop 7 trailer))

-- what reading finds: no trailer, a last one that is refused, or a plan's startup and cycle entries
pub data Newest : Type 0 where
  none : Newest
  damaged : Newest
  plan : List ℕ → List ℕ → Newest

-- the last trailer, and what is before it in the log
module _ (before trailer : List ℕ) where
  abbrev pub before_start : Bool
  before_start = ltb (length before) (block_length * block_count trailer)

  -- the blocks that the trailer covers, and what they carry
  abbrev pub covered : List ℕ
  covered = drop (length before - block_length * block_count trailer) before

  abbrev pub entries : List ℕ
  entries = carried (block_count trailer) covered

  abbrev pub other_kind : Bool
  other_kind = not (all_plan (block_count trailer) covered)

  abbrev pub nonzero_pad : Bool
  nonzero_pad = not (all_zero (drop (entries_length trailer) entries))

  -- refused 21 exactly when one of these holds
  abbrev pub is_damaged : Bool
  is_damaged = wrong_count trailer || before_start || other_kind || nonzero_pad || nonzero_rest trailer

  abbrev pub plan_before : Newest
  plan_before =
      cond is_damaged damaged (plan (take (startup_length trailer) entries) (take (cycle_length trailer) (drop (startup_length trailer) entries)))

-- of a log that has been cut back: its last block is the trailer. Nothing is meant by it for another log
abbrev pub newest_of : List ℕ → Newest
newest_of log = cond (ltb (length log) block_length) none (plan_before (take (length log - block_length) log) (drop (length log - block_length) log))

abbrev pub newest : List ℕ → Newest
newest log = newest_of (kept log)
