-- Whatever byte the power fails after, nothing is lost. Request #104.
use Rattle.std.specs.Prelude.{◌≡◌, List, ℕ, ◌≤◌, ◌<◌, take, Ok}
use Rattle.format.specs.Newest.{plan, newest}
use Rattle.packing.specs.Packing.{unfit}
use Rattle.plan_log.specs.Log.{start, AppendedAs}

-- the power failed when the first j bytes were there: the log was cut back, the new bytes are written in order, and the last of the n is missing
pub record IsTorn (log : List ℕ) (used n j : ℕ) : Type 0 where
  pub begun : start log used ≤ j
  pub not_whole : j < n

-- a log of which so many bytes were used, a plan that was appended, and the buffer after it, with n bytes used
pub record NothingLost (log : List ℕ) (used : ℕ) (startup cycle : List ℕ) (n : ℕ) (after : List ℕ) : Type 0 where
  -- reading what is left gives what it gave before
  pub torn : (j : ℕ) → IsTorn log used n j → newest (take j after) ≡ newest (take used log)
  -- all were written: reading gives the new plan
  pub whole : newest (take n after) ≡ plan startup cycle
  -- what is left takes the plans that the log took before
  pub room : (j : ℕ) → IsTorn log used n j → (s c : List ℕ) → unfit after (start after j) s c ≡ unfit log (start log used) s c
  -- and one that is appended to it is the newest then
  pub again : (j : ℕ) → IsTorn log used n j → (s c : List ℕ) (m : ℕ) (left : List ℕ)
      → AppendedAs after j s c (Ok m) left → newest (take m left) ≡ plan s c

-- whatever was in the log, whatever plan was appended and whatever byte the power failed after
abbrev pub Survives : Type 0
Survives = (log : List ℕ) (used : ℕ) (startup cycle : List ℕ) (n : ℕ) (after : List ℕ)
    → AppendedAs log used startup cycle (Ok n) after → NothingLost log used startup cycle n after
