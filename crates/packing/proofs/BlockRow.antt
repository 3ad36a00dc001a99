-- The blocks of a plan, one after the other.
use mathlib.Core.Path.{◌≡◌, sym, ◌∙◌, ap}
use mathlib.Core.List.{List, ◌∷◌, ◌++◌, append_assoc, append-nil}
use Prim.Native.Nat.{ℕ, zero, suc, ◌+◌, ◌-◌, ◌*◌}
use native.Mathlib.Omega.{arith}
use lib.ListN.{take, drop}
use lib.Seq.{take_at, drop_at, drop-drop}
use Rattle.format.specs.Blocks.{padded, plan_blocks}
use Rattle.format.proofs.Carried.{blocks_length}

-- one block after those that are there
blocks_snoc : (n : ℕ) (entries : List ℕ) → plan_blocks (suc n) entries ≡ plan_blocks n entries ++ (1 ∷ padded 63 (drop (63 * n) entries))
blocks_snoc zero entries = append-nil (1 ∷ padded 63 entries)
blocks_snoc (suc n) entries =
    let e : 63 + 63 * n ≡ 63 * suc n = omega arith in
    ap (λ (l : List ℕ). 1 ∷ padded 63 entries ++ l)
    (blocks_snoc n (drop 63 entries)
    ∙ ap (λ (l : List ℕ). plan_blocks n (drop 63 entries) ++ (1 ∷ padded 63 l)) (drop-drop (63 * n) 63 entries ∙ ap (λ (k : ℕ). drop k entries) e))
    ∙ sym (append_assoc (1 ∷ padded 63 entries) (plan_blocks n (drop 63 entries)) (1 ∷ padded 63 (drop (63 * suc n) entries)))

module _ (entries out : List ℕ) where
  -- the first n blocks are laid
  abbrev pub LaidBlocks : ℕ → List ℕ
  LaidBlocks n = plan_blocks n entries ++ drop (64 * n) out

  pub laid_more : (n : ℕ) (now block : List ℕ) → now ≡ LaidBlocks n → block ≡ 1 ∷ padded 63 (drop (63 * n) entries)
      → take (64 * n) now ++ (block ++ drop (64 * n + 64 - 64 * n) (drop (64 * n) now)) ≡ LaidBlocks (n + 1)
  laid_more n now block e b =
      let w : 64 * n + 64 - 64 * n ≡ 64 = omega arith in
      let s : n + 1 ≡ suc n = omega arith in
      let k : 64 * n + 64 ≡ 64 * suc n = omega arith in
      rw (
        e,
        b,
        w,
        s,
        take_at (plan_blocks n entries) (drop (64 * n) out) (64 * n) (blocks_length n entries),
        drop_at (plan_blocks n entries) (drop (64 * n) out) (64 * n) (blocks_length n entries),
        drop-drop 64 (64 * n) out,
        k,
      )
      (sym (append_assoc (plan_blocks n entries) (1 ∷ padded 63 (drop (63 * n) entries)) (drop (64 * suc n) out))
      ∙ ap (λ (l : List ℕ). l ++ drop (64 * suc n) out) (sym (blocks_snoc n entries)))
