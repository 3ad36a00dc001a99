-- A name and one number or two, and what is laid of the numbers so far.
use mathlib.Core.Path.{◌≡◌, refl, sym, ◌∙◌, ap}
use mathlib.Core.List.{List, [], ◌∷◌, ◌++◌, append_assoc, append-nil}
use Prim.Native.Nat.{ℕ, ◌+◌, ◌<◌}
use native.Mathlib.Numerals.{add-one}
use lib.ListN.{length, take, get_or}
use lib.Seq.{take-suc}
use Rattle.decimal.specs.Bytes.{newline, space}
use Rattle.decimal.specs.Decimal.{decimal}
use Rattle.report.specs.Report.{one, two, numbers_text, line}

pub line_one : (name : List ℕ) (a : ℕ) → line name (a ∷ []) ≡ one name a
line_one name a = sym (append_assoc name (space ∷ decimal a) (newline ∷ []))

pub line_two : (name : List ℕ) (a b : ℕ) → line name (a ∷ b ∷ []) ≡ two name a b
line_two name a b = simp append_assoc

-- what stands before the newline: each entry's text, one after the other
abbrev pub entries : (ℕ → List ℕ) → List ℕ → List ℕ
entries text [] = []
entries text (b ∷ l) = text b ++ entries text l

module _ (text : ℕ → List ℕ) where
  entries_more : (l : List ℕ) (b : ℕ) → entries text (l ++ b ∷ []) ≡ entries text l ++ text b
  entries_more [] b = append-nil (text b)
  entries_more (a ∷ l) b = ap (λ (s : List ℕ). text a ++ s) (entries_more l b) ∙ sym (append_assoc (text a) (entries text l) (text b))

  pub entries_next : (l : List ℕ) (i : ℕ) → i < length l → entries text (take (i + 1) l) ≡ entries text (take i l) ++ text (get_or l i 0)
  entries_next l i h =
      let e : take (i + 1) l ≡ take i l ++ get_or l i 0 ∷ [] = rw add-one (take-suc l i 0 h) in
      ap (entries text) e ∙ entries_more (take i l) (get_or l i 0)

  -- a definition that ends such entries with a newline
  pub entries_end : (whole : List ℕ → List ℕ) → whole [] ≡ newline ∷ [] → ((b : ℕ) (l : List ℕ) → whole (b ∷ l) ≡ text b ++ whole l)
      → (l : List ℕ) → entries text l ++ newline ∷ [] ≡ whole l
  entries_end whole none more [] = sym none
  entries_end whole none more (b ∷ l) =
      append_assoc (text b) (entries text l) (newline ∷ []) ∙ ap (λ (s : List ℕ). text b ++ s) (entries_end whole none more l) ∙ sym (more b l)

abbrev pub spaced_number : ℕ → List ℕ
spaced_number n = space ∷ decimal n

pub numbers_end : (l : List ℕ) → entries spaced_number l ++ newline ∷ [] ≡ numbers_text l
numbers_end = entries_end spaced_number numbers_text refl (λ b l. refl)
