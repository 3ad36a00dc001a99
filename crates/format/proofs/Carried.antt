-- The blocks of a plan: their kinds, and what they carry.
use mathlib.Core.Path.{◌≡◌, refl, sym, ◌∙◌, ap}
use mathlib.Core.Bool.{true}
use mathlib.Core.List.{List, ◌∷◌, ◌++◌, append_assoc}
use Prim.Native.Nat.{ℕ, zero, suc, ◌+◌, ◌*◌, ◌<◌}
use native.Mathlib.Nat.{mul-zero, zero-sub}
use native.Mathlib.Omega.{arith}
use lib.ListN.{length, take, drop, get_or, length-append, length-take, length-replicate}
use lib.Seq.{take_at, drop_at, get_or-drop}
use Rattle.format.specs.Blocks.{padded, plan_blocks}
use Rattle.format.specs.Newest.{all_plan, carried}
use Rattle.format.proofs.Lists.{padded_add}

pub padded_length : (n : ℕ) (l : List ℕ) → length (padded n l) ≡ n
padded_length n l = simp (length-append, length-take, length-replicate) (omega arith)

pub blocks_length : (n : ℕ) (entries : List ℕ) → length (plan_blocks n entries) ≡ 64 * n
blocks_length zero entries = rw mul-zero
blocks_length (suc n) entries =
    length-append (1 ∷ padded 63 entries) (plan_blocks n (drop 63 entries)) ∙ omega (arith, padded_length 63 entries, blocks_length n (drop 63 entries))

-- the blocks after the first
next_blocks : (n : ℕ) (entries rest : List ℕ) → drop 64 (plan_blocks (suc n) entries ++ rest) ≡ plan_blocks n (drop 63 entries) ++ rest
next_blocks n entries rest =
    ap (drop 64) (append_assoc (1 ∷ padded 63 entries) (plan_blocks n (drop 63 entries)) rest)
    ∙ drop_at (1 ∷ padded 63 entries) (plan_blocks n (drop 63 entries) ++ rest) 64 (ap suc (padded_length 63 entries))

pub blocks_kind : (n : ℕ) (entries rest : List ℕ) (i : ℕ) → i < n → get_or (plan_blocks n entries ++ rest) (64 * i) 0 ≡ 1
blocks_kind zero entries rest i h = absurd (omega arith)
blocks_kind (suc n) entries rest zero h = refl
blocks_kind (suc n) entries rest (suc i) h =
    let e : 64 * suc i ≡ 64 + 64 * i = omega arith in
    rw e (sym (get_or-drop 64 (plan_blocks (suc n) entries ++ rest) (64 * i) 0)
    ∙ ap (λ (l : List ℕ). get_or l (64 * i) 0) (next_blocks n entries rest)
    ∙ blocks_kind n (drop 63 entries) rest i (omega arith))

pub blocks_plan : (n : ℕ) (entries rest : List ℕ) → all_plan n (plan_blocks n entries ++ rest) ≡ true
blocks_plan zero entries rest = refl
blocks_plan (suc n) entries rest = ap (all_plan n) (next_blocks n entries rest) ∙ blocks_plan n (drop 63 entries) rest

pub blocks_carried : (n : ℕ) (entries rest : List ℕ) → carried n (plan_blocks n entries ++ rest) ≡ padded (63 * n) entries
blocks_carried zero entries rest = rw (mul-zero, zero-sub)
blocks_carried (suc n) entries rest =
    let e : 63 * suc n ≡ 63 + 63 * n = omega arith in
    rw (e, padded_add 63 (63 * n) entries, next_blocks n entries rest, blocks_carried n (drop 63 entries) rest)
    (ap (λ (l : List ℕ). l ++ padded (63 * n) (drop 63 entries))
    (ap (take 63) (append_assoc (padded 63 entries) (plan_blocks n (drop 63 entries)) rest)
    ∙ take_at (padded 63 entries) (plan_blocks n (drop 63 entries) ++ rest) 63 (padded_length 63 entries)))
