-- Calls over texts: what is promised leaves one outcome.
use mathlib.Core.Path.{◌≡◌, sym, ap, ◌∙◌}
use mathlib.Core.Bool.{Bool, true, false}
use mathlib.Core.List.{List}
use Prim.Native.Nat.{ℕ}
use Rattle.text.specs.Reading.{reading}
use Rattle.writer.specs.Writing.{saved_number}
use Rattle.writer.proofs.Pinned.{saved_pinned}
use Rattle.output.proofs.Pinned.{printed_pinned}
use Rattle.words.specs.Words.{card_of, policy_of, tasks_of}
use Rattle.sholakpite.specs.Texts.{length_of, AnsweredText, misread_text, either_text, WrittenText}

-- `sholakpite_answer` has one outcome
pub answer_text_pinned : (input buffer : List ℕ) (n n' : ℕ) (left left' : List ℕ) →
    AnsweredText input buffer n left → AnsweredText input buffer n' left' → (n ≡ n') × (left ≡ left')
answer_text_pinned input buffer n n' left left' x y =
    let e = printed_pinned (reading input) buffer x.written y.written left left' x.printed y.printed in
    (x.is_length ∙ ap length_of e.0 ∙ sym y.is_length, e.1)

module _ (card policy : ℕ) (list buffer : List ℕ) where
  -- `sholakpite_write_card` has one outcome, and so has `sholakpite_write`
  pub write_text_pinned : (n n' : ℕ) (left left' : List ℕ) → WrittenText card policy list buffer n left → WrittenText card policy list buffer n' left' →
      (n ≡ n') × (left ≡ left')
  write_text_pinned n n' left left' = go (misread_text card policy list)
    where
      go : (b : Bool) → either_text card policy list buffer b n left → either_text card policy list buffer b n' left' → (n ≡ n') × (left ≡ left')
      go true x y = (x.is_code ∙ sym y.is_code, x.kept ∙ sym y.kept)
      go false x y =
          let e = saved_pinned (card_of card) (policy_of policy) (tasks_of list) buffer x.saved y.saved left left' x.saved_as y.saved_as in
          (x.is_number ∙ ap saved_number e.0 ∙ sym y.is_number, e.1)
