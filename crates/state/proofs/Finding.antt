-- What is known of a number that may be none.
use mathlib.Core.Path.{◌≡◌, refl}
use Prim.Native.Nat.{ℕ, ◌≤◌, ◌<◌}
use native.Mathlib.Omega.{arith}
use Rattle.std.specs.Prelude.{Option, Some, None, IfSome, unwrap_or}
use Rattle.state.specs.State.{Found}

pub some_found : {n : ℕ} (o : Option ℕ) {P Q : ℕ → Type 0} → Found n o P → ((i : ℕ) → i < n → P i → Q i) → IfSome o Q
some_found (Some i) f g = g i f.below f.is
some_found None f g = tt

pub none_found : {n : ℕ} (o : Option ℕ) {P : ℕ → Type 0} → Found n o P → n ≤ unwrap_or o n → o ≡ None
none_found (Some i) f h = let b : i < _ = f.below in absurd (omega arith)
none_found None f h = refl
