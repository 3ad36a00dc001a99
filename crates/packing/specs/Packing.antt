-- A plan that is laid into the log, or refused. Request #104.
use Rattle.std.specs.Prelude.{◌≡◌, Bool, cond, ◌||◌, List, ◌++◌, ℕ, ◌+◌, ◌-◌, ltb, length, take, drop, Result, Ok, Err}
use Rattle.format.specs.Blocks.{largest_length, plan_bytes}
use Rattle.packing.specs.declared.NoRoom.{NoRoom}

-- the request's number of a plan that is refused
abbrev pub number_of : NoRoom → ℕ
number_of e = 23

-- an answer as the request has it: how many bytes are used then, or a number
pub data Reply : Type 0 where
  bytes : ℕ → Reply
  number : ℕ → Reply

abbrev pub reply : Result ℕ NoRoom → Reply
reply (Ok n) = bytes n
reply (Err e) = number (number_of e)

module _ (log : List ℕ) (place : ℕ) (startup cycle : List ℕ) where
  -- plan and trailer don't fit the room left from the place on, or a length is above 65,535
  abbrev pub unfit : Bool
  unfit =
      ltb (length log - place) (length (plan_bytes startup cycle)) || ltb largest_length (length startup) || ltb largest_length (length cycle)

  -- where the plan ends
  abbrev pub end : ℕ
  end = place + length (plan_bytes startup cycle)

  -- `log` is the buffer as it was lent, `left` as it is left
  module _ (r : Result ℕ NoRoom) (left : List ℕ) where
    pub record IsRefused : Type 0 where
      pub is_number : reply r ≡ number 23
      pub unchanged : left ≡ log

    pub record IsAppended : Type 0 where
      pub is_used : reply r ≡ bytes end
      pub log_left : left ≡ take place log ++ plan_bytes startup cycle ++ drop end log

    abbrev pub PackedAt : Type 0
    PackedAt = cond unfit IsRefused IsAppended
