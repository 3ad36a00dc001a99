-- The trailer.
use mathlib.Core.Path.{◌≡◌}
use mathlib.Core.List.{List, [], ◌∷◌, ◌++◌, append-nil}
use Prim.Native.Nat.{ℕ, ◌+◌, ◌-◌}
use native.Mathlib.Omega.{arith}
use borrow.Rule.Slice.PartMut.{put_mid, mid_of}
use lib.ListN.{length, take, drop, set, replicate, length-drop, drop_of_length-le}
use lib.Seq.{length-take-le}
use Rattle.format.specs.Blocks.{two_bytes, trailer}

-- what is left of 64 bytes after the first seven
rest_zero : (rest : List ℕ) → length rest ≡ 57 → (blocks startup cycle : ℕ)
    → (2 ∷ two_bytes blocks ++ two_bytes startup ++ two_bytes cycle)
    ++ (replicate (length (take (length (2 ∷ two_bytes blocks ++ two_bytes startup ++ two_bytes cycle ++ rest) - 7) rest)) 0
    ++ drop (length (2 ∷ two_bytes blocks ++ two_bytes startup ++ two_bytes cycle ++ rest) - 7) rest) ≡ trailer blocks startup cycle
rest_zero rest n blocks startup cycle =
    let e : length (2 ∷ two_bytes blocks ++ two_bytes startup ++ two_bytes cycle ++ rest) - 7 ≡ 57 = omega (arith, n) in
    rw (e, length-take-le 57 rest (omega arith), drop_of_length-le rest {i = 57} (omega arith), append-nil (replicate {A = ℕ} 57 0))

-- its kind, its three numbers, and zeros after them
pub trailer_laid : (out : List ℕ) (blocks startup cycle : ℕ) → length out ≡ 64 → (a b d : List ℕ)
    → a ≡ two_bytes blocks → b ≡ two_bytes startup → d ≡ two_bytes cycle
    → (z : List ℕ) → z ≡ replicate (length (mid_of 7 (length (put_mid 5 2 (put_mid 3 2 (put_mid 1 2 (set out 0 2) a) b) d) - 7) (put_mid 5 2 (put_mid 3 2 (put_mid 1 2 (set out 0 2) a) b) d))) 0
    → put_mid 7 (length (put_mid 5 2 (put_mid 3 2 (put_mid 1 2 (set out 0 2) a) b) d) - 7) (put_mid 5 2 (put_mid 3 2 (put_mid 1 2 (set out 0 2) a) b) d) z ≡ trailer blocks startup cycle
trailer_laid [] blocks startup cycle whole a b d ea eb ed z ez = absurd (omega arith)
trailer_laid (x ∷ out) blocks startup cycle whole a b d ea eb ed z ez =
    let n : length (drop 2 (drop 2 (drop 2 out))) ≡ 57 = omega (arith, length-drop 2 out, length-drop 2 (drop 2 out), length-drop 2 (drop 2 (drop 2 out))) in
    let e : 7 + length (drop 2 (drop 2 (drop 2 out))) - 7 ≡ 57 = omega arith in
    rw (ez, ea, eb, ed) (rest_zero (drop 2 (drop 2 (drop 2 out))) n blocks startup cycle)
