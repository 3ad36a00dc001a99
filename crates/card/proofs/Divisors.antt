-- What the test of a period means: a small card can time exactly the divisors of 240, in the library's sense.
use mathlib.Core.Path.{◌≡◌}
use mathlib.Core.Bool.{true}
use mathlib.Core.Logic.{◌↔◌}
use Prim.Native.Nat.{ℕ, ◌∣◌}
use native.Mathlib.Nat.{dvd_of_mod-eq-zero, mod-eq-zero_of_dvd}
use borrow.Author.Tests.{eqb-true, eq-eqb}
use Rattle.card.specs.declared.Card.TheVariants.{Small}
use Rattle.card.specs.Cards.{longest_timed, is_timed}

pub divisor_divides : (T : ℕ) → (is_timed Small T ≡ true) ↔ (T ∣ longest_timed)
divisor_divides T = (λ e. dvd_of_mod-eq-zero T (eqb-true _ _ e), λ d. eq-eqb _ _ (mod-eq-zero_of_dvd T d))
