-- Any two permitted outcomes are equal.
use mathlib.Core.Path.{◌≡◌, refl, sym, ◌∙◌, ap}
use mathlib.Core.Bool.{Bool, true, false, cond}
use mathlib.Core.List.{List}
use Prim.Native.Nat.{ℕ}
use Rattle.std.specs.Prelude.{Result, Ok, Err}
use Rattle.packing.specs.declared.NoRoom.{NoRoom}
use Rattle.packing.specs.Packing.{Reply, bytes, number, reply, unfit, IsRefused, IsAppended, PackedAt}

-- a reply comes from one answer
abbrev answer : Reply → Result ℕ NoRoom
answer (bytes n) = Ok n
answer (number n) = Err (record {})

answer_back : (r : Result ℕ NoRoom) → answer (reply r) ≡ r
answer_back (Ok n) = refl
answer_back (Err e) = refl

one_answer : (r r' : Result ℕ NoRoom) → reply r ≡ reply r' → r ≡ r'
one_answer r r' e = sym (answer_back r) ∙ ap answer e ∙ answer_back r'

module _ (log : List ℕ) (place : ℕ) (startup cycle : List ℕ) (r r' : Result ℕ NoRoom) (left left' : List ℕ) where
  same : (b : Bool) → cond b (IsRefused log place startup cycle r left) (IsAppended log place startup cycle r left)
      → cond b (IsRefused log place startup cycle r' left') (IsAppended log place startup cycle r' left') → (r ≡ r') × (left ≡ left')
  same true x y = (one_answer r r' (x.is_number ∙ sym y.is_number), x.unchanged ∙ sym y.unchanged)
  same false x y = (one_answer r r' (x.is_used ∙ sym y.is_used), x.log_left ∙ sym y.log_left)

  pub packed_pinned : PackedAt log place startup cycle r left → PackedAt log place startup cycle r' left' → (r ≡ r') × (left ≡ left')
  packed_pinned = same (unfit log place startup cycle)
