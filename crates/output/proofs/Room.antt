-- The buffers of a report have room for every list: none is refused for them.
use mathlib.Core.Path.{◌≡◌, subst}
use mathlib.Core.List.{List}
use Prim.Native.Nat.{ℕ}
use native.Mathlib.Omega.{arith}
use lib.ListN.{length, length-replicate}
use Rattle.card.specs.declared.Card.{Card}
use Rattle.task.specs.declared.Task.{Task}
use Rattle.schedule.specs.declared.Policy.{Policy}
use Rattle.schedule.specs.Job.{idle}
use Rattle.answer.specs.declared.Answer.{Answer}
use Rattle.answer.specs.Answers.{row, Row, refused}
use Rattle.answer.specs.Tables.{byte_of}
use Rattle.answer.specs.Promise.{Permitted, Promised}
use Rattle.output.specs.Output.{longest_startup, longest_cycle, clear}
use Rattle.output.proofs.Refusing.{Limit, refused_limit}

-- said of any n, so that no buffer is laid out here
pub clear_length : (n : ℕ) → length (clear n) ≡ n
clear_length n = length-replicate n (byte_of idle)

module _ (card : Card) (p : Policy) (l : List Task) (startup cycle : List ℕ) (n : length startup ≡ longest_startup) (m : length cycle ≡ longest_cycle) where
  pub permitted_limit : (number i : ℕ) (s c : List ℕ) → Permitted card p l startup cycle (refused number i) s c → Limit number i
  permitted_limit number i s c x = refused_limit card l (length startup) (length cycle) (omega arith) (omega arith) number i x.is_first_refusal

module _ (card : Card) (p : Policy) (l : List Task) (answer : Answer) (s c : List ℕ)
    (x : Promised card p l (clear longest_startup) (clear longest_cycle) answer s c) where
  permitted : (r : Row) → row answer ≡ r → Permitted card p l (clear longest_startup) (clear longest_cycle) r s c
  permitted r e = subst (λ (r : Row). Permitted card p l (clear longest_startup) (clear longest_cycle) r s c) e x.demand_2

  pub never_short : (n i : ℕ) → row answer ≡ refused n i → (n ≡ 7 → ⊥) × (n ≡ 8 → ⊥)
  never_short n i e =
      let y : Limit n i =
      permitted_limit card p l (clear longest_startup) (clear longest_cycle) (clear_length longest_startup) (clear_length longest_cycle) n i s c (permitted (refused n i) e) in
      (y.no_startup, y.no_cycle)
