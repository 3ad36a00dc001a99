-- The log of plans for callers in C and Rust. Request #104.
use Rattle.std.specs.Prelude.{◌≡◌, cond, List, [], ◌∷◌, ◌++◌, ℕ, ltb, length, drop, Result}
use Rattle.packing.specs.declared.NoRoom.{NoRoom}
use Rattle.packing.specs.Packing as packing
use Rattle.unpacking.specs.declared.Lengths.{Lengths}
use Rattle.unpacking.specs.declared.NoPlan.{NoPlan}
use Rattle.unpacking.specs.Unpacking as unpacking
use Rattle.words.specs.Words.{not_understood}
use Rattle.plan_log.specs.Log.{AppendedAs, ReadAs}

-- how many bytes are used then, a multiple of 64, or 23
abbrev pub append_code : packing.Reply → ℕ
append_code (packing.bytes n) = n
append_code (packing.number n) = n

-- 0 for a plan, or the request's number
abbrev pub read_code : unpacking.Reply → ℕ
read_code (unpacking.lengths a b) = 0
read_code (unpacking.number n) = n

-- the plan's two lengths
abbrev pub length_words : unpacking.Reply → List ℕ
length_words (unpacking.lengths a b) = a ∷ b ∷ []
length_words (unpacking.number n) = []

abbrev pub length_count : ℕ
length_count = 2

-- `log` is the buffer as it was lent, `left` as it is left, n what is answered
pub record AnsweredAppend (log : List ℕ) (used : ℕ) (startup cycle : List ℕ) (n : ℕ) (left : List ℕ) : Type 0 where
  pub answer : Result ℕ NoRoom
  pub appended : AppendedAs log used startup cycle answer left
  pub is_code : n ≡ append_code (packing.reply answer)

-- `startup`, `cycle` and `words` are the buffers as they were lent, s, c and w as they are left
module _ (log startup cycle words : List ℕ) (n : ℕ) (s c w : List ℕ) where
  pub record NotUnderstood : Type 0 where
    pub is_code : n ≡ not_understood
    pub startup_unchanged : s ≡ startup
    pub cycle_unchanged : c ≡ cycle
    pub words_unchanged : w ≡ words

  pub record Understood : Type 0 where
    pub answer : Result Lengths NoPlan
    pub read_as : ReadAs log startup cycle answer s c
    pub is_code : n ≡ read_code (unpacking.reply answer)
    pub is_written : w ≡ length_words (unpacking.reply answer) ++ drop (length (length_words (unpacking.reply answer))) words

  -- 4 exactly when there is no room for two lengths
  abbrev pub AnsweredRead : Type 0
  AnsweredRead = cond (ltb (length words) length_count) NotUnderstood Understood
