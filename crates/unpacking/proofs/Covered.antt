-- The blocks that a trailer covers, as a part of what is before it.
use mathlib.Core.Path.{◌≡◌, ◌∙◌, ap}
use mathlib.Core.List.{List}
use Prim.Native.Nat.{ℕ, ◌-◌, ◌*◌, ◌≤◌}
use native.Mathlib.Omega.{arith}
use lib.ListN.{length, take, drop, length-drop}
use Rattle.format.proofs.Lists.{to_end}

module _ (before : List ℕ) (count : ℕ) where
  -- as it is cut out
  abbrev pub part : List ℕ
  part = take (length before - (length before - 64 * count)) (drop (length before - 64 * count) before)

  pub part_is : part ≡ drop (length before - 64 * count) before
  part_is = to_end before (length before - 64 * count)

  pub part_length : 64 * count ≤ length before → length part ≡ 64 * count
  part_length h = ap length part_is ∙ length-drop (length before - 64 * count) before ∙ omega arith
