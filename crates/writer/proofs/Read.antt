-- What the writer leaves in a buffer, read again.
use mathlib.Core.Path.{◌≡◌, refl, ◌∙◌, ap}
use mathlib.Core.Bool.{Bool, true, false, ◌||◌}
use mathlib.Core.List.{List}
use Prim.Native.Nat.{ℕ}
use lib.Dec.{ltb}
use lib.ListN.{length, take, drop}
use lib.Seq.{take-append_seam}
use Rattle.card.specs.declared.Card.{Card}
use Rattle.task.specs.declared.Task.{Task}
use Rattle.task.proofs.Refusing.{neither}
use Rattle.schedule.specs.declared.Policy.{Policy}
use Rattle.line.proofs.Parts.{never}
use Rattle.text.specs.Reading.{reading, listed}
use Rattle.std.specs.Prelude.{Ok}
use Rattle.writer.specs.Writing.{text, unwritable, either, SavedAs}
use Rattle.writer.proofs.RoundTrip.{round_trip}

module _ (c : Card) (p : Policy) (l : List Task) (buffer : List ℕ) (n : ℕ) (left : List ℕ) where
  -- the bytes that are answered for are the text
  saved_text : (b : Bool) → (unwritable l || ltb (length buffer) (length (text c p l))) ≡ b → either c p l buffer (Ok n) left b
      → reading (take n left) ≡ listed c p l
  saved_text true e x = never (cc x.is_refused)
  saved_text false e x =
      let same : n ≡ length (text c p l) = cc x.is_length in
      let whole : take n left ≡ text c p l =
      ap (λ (k : ℕ). take k left) same
      ∙ ap (take (length (text c p l))) x.later_kept
      ∙ take-append_seam (text c p l) (drop (length (text c p l)) buffer) in
      ap reading whole ∙ round_trip c p l (neither (unwritable l) (ltb (length buffer) (length (text c p l))) e).0

  -- reading what it wrote gives the same policy, card and list
  pub written_read : SavedAs c p l buffer (Ok n) left → reading (take n left) ≡ listed c p l
  written_read = saved_text (unwritable l || ltb (length buffer) (length (text c p l))) refl
