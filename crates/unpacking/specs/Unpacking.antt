-- The newest plan handed over, or a number. Request #104.
use Rattle.std.specs.Prelude.{◌≡◌, cond, ◌||◌, List, ◌++◌, ℕ, ltb, length, drop, Result, Ok, Err}
use Rattle.format.specs.Newest.{Newest, none, damaged, plan}
use Rattle.unpacking.specs.declared.Lengths.{Lengths}
use Rattle.unpacking.specs.declared.NoPlan.{NoPlan}
use Rattle.unpacking.specs.declared.NoPlan.TheVariants.{Nothing, Damaged, Short}

-- the request's numbers
abbrev pub number_of : NoPlan → ℕ
number_of Nothing = 20
number_of Damaged = 21
number_of Short = 22

-- an answer as the request has it: the plan's two lengths, or a number
pub data Reply : Type 0 where
  lengths : ℕ → ℕ → Reply
  number : ℕ → Reply

abbrev pub reply : Result Lengths NoPlan → Reply
reply (Ok n) = lengths n.startup n.cycle
reply (Err e) = number (number_of e)

-- `startup` and `cycle` are the buffers as they were lent, s and c as they are left
module _ (startup cycle : List ℕ) (r : Result Lengths NoPlan) (s c : List ℕ) where
  -- an answer by number changes nothing
  pub record IsNumber (n : ℕ) : Type 0 where
    pub is_number : reply r ≡ number n
    pub startup_unchanged : s ≡ startup
    pub cycle_unchanged : c ≡ cycle

  -- bytes past a part stay
  pub record IsPlan (a b : List ℕ) : Type 0 where
    pub is_lengths : reply r ≡ lengths (length a) (length b)
    pub startup_left : s ≡ a ++ drop (length a) startup
    pub cycle_left : c ≡ b ++ drop (length b) cycle

  -- 20 if there is none, 21 if it is refused, then 22 exactly when a lent buffer is shorter than its part
  abbrev pub ReadOff : Newest → Type 0
  ReadOff none = IsNumber 20
  ReadOff damaged = IsNumber 21
  ReadOff (plan a b) = cond (ltb (length startup) (length a) || ltb (length cycle) (length b)) (IsNumber 22) (IsPlan a b)
