-- The tables: how long they are, what stands in them, and how they grow by a slot.
use mathlib.Core.Path.{◌≡◌, refl, ap, sym, ◌∙◌}
use mathlib.Core.List.{List, [], ◌∷◌, ◌++◌, append_assoc}
use Prim.Native.Nat.{ℕ, zero, suc, ◌+◌, ◌<◌}
use native.Mathlib.Nat.{add-zero, add-suc, suc-add}
use native.Mathlib.Omega.{arith}
use lib.ListN.{length, take, drop, set}
use lib.Seq.{take_at, set_at, drop-cons}
use Rattle.schedule.specs.Job.{Choice}
use Rattle.answer.specs.Tables.{byte_of, slots, filled}

pub slots_length : (σ : Choice) (t n : ℕ) → length (slots σ t n) ≡ n
slots_length σ t zero = refl
slots_length σ t (suc n) = ap suc (slots_length σ (suc t) n)

-- the part of the slots from entry j on begins with slot t + j
pub slots_at : (σ : Choice) (t n j : ℕ) → j < n → take 1 (drop j (slots σ t n)) ≡ byte_of (σ (t + j)) ∷ []
slots_at σ t zero j b = absurd (omega arith)
slots_at σ t (suc n) zero b = rw add-zero refl
slots_at σ t (suc n) (suc j) b = rw (add-suc t j, ← suc-add t j) (slots_at σ (suc t) n j (omega arith))

-- what was written, cut to its length
pub filled_cut : (σ : Choice) (t n : ℕ) (buffer : List ℕ) → take n (filled σ t n buffer) ≡ slots σ t n
filled_cut σ t n buffer = take_at (slots σ t n) (drop n buffer) n (slots_length σ t n)

slots_next : (σ : Choice) (t n : ℕ) → slots σ t (suc n) ≡ slots σ t n ++ (byte_of (σ (t + n)) ∷ [])
slots_next σ t zero = rw add-zero refl
slots_next σ t (suc n) = rw (add-suc t n, ← suc-add t n) (ap (λ r. byte_of (σ t) ∷ r) (slots_next σ (suc t) n))

-- one slot more is one byte stored
pub filled_next : (σ : Choice) (t n : ℕ) (buffer : List ℕ) → n < length buffer →
    set (filled σ t n buffer) n (byte_of (σ (t + n))) ≡ filled σ t (suc n) buffer
filled_next σ t n buffer b =
    rw (drop-cons buffer n 0, set_at (slots σ t n) _ (drop (suc n) buffer) (byte_of (σ (t + n))) n (slots_length σ t n))
    (
    sym (append_assoc (slots σ t n) (byte_of (σ (t + n)) ∷ []) (drop (suc n) buffer))
    ∙ ap (λ r. r ++ drop (suc n) buffer) (sym (slots_next σ t n))
    )
