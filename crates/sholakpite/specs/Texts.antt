-- Texts for callers in C and Rust: an input's output, and the text of a list of words.
use Rattle.std.specs.Prelude.{◌≡◌, Bool, true, false, ◌||◌, List, ℕ, Option, Some, None, Result}
use Rattle.text.specs.Reading.{reading}
use Rattle.writer.specs.declared.Unwritable.{Unwritable}
use Rattle.writer.specs.Writing.{SavedAs, saved_number}
use Rattle.output.specs.Output.{Printed}
use Rattle.words.specs.Words.{card_of, policy_of, tasks_of, unnamed, ragged, not_understood}

-- the output's length, or 0 for a buffer that is shorter: no output is empty (`output_full`)
abbrev pub length_of : Option ℕ → ℕ
length_of (Some n) = n
length_of None = 0

-- `buffer` is as it was lent, `left` as it is left, n what is answered
pub record AnsweredText (input buffer : List ℕ) (n : ℕ) (left : List ℕ) : Type 0 where
  pub written : Option ℕ
  pub printed : Printed (reading input) buffer written left
  pub is_length : n ≡ length_of written

-- the words are not a multiple of four, the card is above 1, or the policy is above 3
abbrev pub misread_text : ℕ → ℕ → List ℕ → Bool
misread_text card policy list = ragged list || unnamed card policy

module _ (card policy : ℕ) (list buffer : List ℕ) where
  pub record NotUnderstood (n : ℕ) (left : List ℕ) : Type 0 where
    pub is_code : n ≡ not_understood
    pub kept : left ≡ buffer

  pub record Understood (n : ℕ) (left : List ℕ) : Type 0 where
    pub saved : Result ℕ Unwritable
    pub saved_as : SavedAs (card_of card) (policy_of policy) (tasks_of list) buffer saved left
    pub is_number : n ≡ saved_number saved

  abbrev pub either_text : Bool → ℕ → List ℕ → Type 0
  either_text true n left = NotUnderstood n left
  either_text false n left = Understood n left

-- the text's length or 13, or 4 for a call that is not understood
abbrev pub WrittenText : ℕ → ℕ → List ℕ → List ℕ → ℕ → List ℕ → Type 0
WrittenText card policy list buffer = either_text card policy list buffer (misread_text card policy list)
