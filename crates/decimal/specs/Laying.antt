-- Bytes laid into a lent buffer, one after the other.
use Rattle.std.specs.Prelude.{◌≡◌, Bool, true, false, List, ◌++◌, ℕ, ◌+◌, min, ltb, length, drop, Option, Some, None}
use Rattle.std.proofs.lemmas.List.Edits.{sets}
use Rattle.task.specs.Limits.{largest}
use Rattle.decimal.specs.declared.Page.{Page}

-- a text from place `at` on, as far as the buffer goes, and the place after it, which no buffer has where it is `largest`
pub record Laid (at : ℕ) (text buffer : List ℕ) (next : ℕ) (left : List ℕ) : Type 0 where
  pub place : next ≡ min (at + length text) largest
  pub filled : left ≡ sets buffer at text

-- a text laid on a page from its place on, and the page after it, which still has the same buffer
pub record OnPage (before : Page) (text : List ℕ) (after : Page) : Type 0 where
  pub same_buffer : after.out.ghost_name ≡ before.out.ghost_name
  pub laid : Laid before.at text before.out.now after.at after.out.now

-- written: its length is answered, and later bytes stay
pub record IsWhole (text buffer : List ℕ) (r : Option ℕ) (left : List ℕ) : Type 0 where
  pub is_length : r ≡ Some (length text)
  pub later_kept : left ≡ text ++ drop (length text) buffer

-- the buffer is shorter than the text: nothing is written
pub record IsShort (buffer : List ℕ) (r : Option ℕ) (left : List ℕ) : Type 0 where
  pub is_short : r ≡ None
  pub kept : left ≡ buffer

abbrev pub either_way : Bool → List ℕ → List ℕ → Option ℕ → List ℕ → Type 0
either_way true text buffer r left = IsShort buffer r left
either_way false text buffer r left = IsWhole text buffer r left

-- a text into a lent buffer: short exactly where the buffer is shorter than the text
abbrev pub Wrote : List ℕ → List ℕ → Option ℕ → List ℕ → Type 0
Wrote text buffer = either_way (ltb (length buffer) (length text)) text buffer
