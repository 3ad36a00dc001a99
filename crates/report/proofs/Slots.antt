-- The slots of a table, entry by entry, with the newline at the end.
use mathlib.Core.Path.{◌≡◌, refl, sym, ◌∙◌}
use mathlib.Core.List.{List, [], ◌∷◌, ◌++◌}
use Prim.Native.Nat.{ℕ, ◌≤◌, min}
use native.Mathlib.Omega.{arith}
use native.Mathlib.Decide.{dec_le}
use lib.ListN.{length, take}
use lib.Seq.{take_all}
use Rattle.decimal.specs.Bytes.{newline}
use Rattle.task.specs.Limits.{largest}
use Rattle.report.specs.Report.{spaced, slots_text}
use Rattle.report.proofs.Lines.{entries, entries_end}

pub slots_end : (slots : List ℕ) → entries spaced slots ++ newline ∷ [] ≡ slots_text slots
slots_end = entries_end spaced slots_text refl (λ b slots. refl)

-- no table is as long as the largest number
pub take_cut : (s : List ℕ) (n : ℕ) → length s ≤ largest → take (min n largest) s ≡ take n s
take_cut s n h = elim (dec_le n largest) [
  | yes p ↦ let e : min n largest ≡ n = omega arith in rw e
  | no p ↦ take_all (min n largest) s (omega arith) ∙ sym (take_all n s (omega arith))
]
