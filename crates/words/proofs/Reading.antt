-- Words read as numbers of cards and policies, and as tasks.
use mathlib.Core.Path.{◌≡◌, refl}
use mathlib.Core.List.{List, [], ◌∷◌}
use Prim.Native.Nat.{ℕ, zero, suc, ◌/◌, ◌<◌}
use native.Mathlib.Omega.{arith}
use lib.ListN.{length, get_or}
use Rattle.std.specs.Simd.{first_chunks}
use Rattle.card.specs.declared.Card.TheVariants.{Wide}
use Rattle.task.specs.Tasks.{task}
use Rattle.words.specs.Words.{wide_card, card_of, task_words, tasks_of}
use Rattle.words.specs.Reading.{task_at}

pub wide_card_lem : card_of wide_card ≡ Wide
wide_card_lem = refl

pub tasks_length : (words : List ℕ) → length (tasks_of words) ≡ length words / 4
tasks_length [] = omega arith
tasks_length (O ∷ []) = omega arith
tasks_length (O ∷ C ∷ []) = omega arith
tasks_length (O ∷ C ∷ D ∷ []) = omega arith
tasks_length (O ∷ C ∷ D ∷ T ∷ words) = omega (arith, tasks_length words)

-- task i is read off the i-th four words
pub chunk_read : (k : ℕ) (words : List ℕ) (i : ℕ) (d : List ℕ) → k ≡ length words / task_words → i < k →
    task_at (get_or (first_chunks task_words k words) i d) 0 ≡ task (tasks_of words) i
chunk_read zero words i d e h = absurd (omega arith)
chunk_read (suc k) [] i d e h = absurd (omega arith)
chunk_read (suc k) (O ∷ []) i d e h = absurd (omega arith)
chunk_read (suc k) (O ∷ C ∷ []) i d e h = absurd (omega arith)
chunk_read (suc k) (O ∷ C ∷ D ∷ []) i d e h = absurd (omega arith)
chunk_read (suc k) (O ∷ C ∷ D ∷ T ∷ words) zero d e h = refl
chunk_read (suc k) (O ∷ C ∷ D ∷ T ∷ words) (suc i) d e h = chunk_read k words i d (omega arith) (omega arith)
