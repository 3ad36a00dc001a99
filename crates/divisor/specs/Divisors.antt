-- The greatest common divisor and the least common multiple. Document 01, "What a task list says".
use Rattle.std.specs.Prelude.{cond, ℕ, zero, suc, ◌*◌, ◌/◌, ◌%◌, leb, Option, Some, None}
use Rattle.std.specs.Int.{◌∣◌}

-- g divides a and b, and whatever divides both divides g
pub record IsGcd (a b g : ℕ) : Type 0 where
  pub left : g ∣ a
  pub right : g ∣ b
  pub greatest : (d : ℕ) → d ∣ a → d ∣ b → d ∣ g

-- a and b divide m, and m divides whatever both divide
pub record IsLcm (a b m : ℕ) : Type 0 where
  pub left : a ∣ m
  pub right : b ∣ m
  pub least : (n : ℕ) → a ∣ n → b ∣ n → m ∣ n

-- each division leaves a smaller remainder, so as many steps as the second number are enough
abbrev pub gcd_in : ℕ → ℕ → ℕ → ℕ
gcd_in zero a b = a
gcd_in (suc steps) a zero = a
gcd_in (suc steps) a (suc b) = gcd_in steps (suc b) (a % suc b)

-- the greatest common divisor (`gcd_is`)
abbrev pub gcd : ℕ → ℕ → ℕ
gcd a b = gcd_in b a b

-- the least common multiple (`lcm_is`), divided before it is multiplied
abbrev pub lcm : ℕ → ℕ → ℕ
lcm a b = a / gcd a b * b

-- a multiple where it is no more than most, else that there is none
abbrev pub within : ℕ → ℕ → Option ℕ
within most m = cond (leb m most) (Some m) None
