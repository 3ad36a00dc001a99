-- Blocks as a list is cut into them, and the tests of them and of bytes, one after the other.
use Rattle.std.proofs.Common.{◌≡◌, refl, sym, ◌∙◌, ap, subst, ℕ, zero, suc, ◌+◌, ◌-◌, ◌*◌, ◌/◌, ◌<◌, ◌≤◌, List, [], ◌∷◌, ◌++◌, length, take, drop, get_or, arith, length-append, length-take, length-drop}
use mathlib.Core.List.{append-nil, append_assoc}
use Rattle.std.proofs.lemmas.List.{drop-take}
use Rattle.format.proofs.Lists.{to_end}
use lib.Dec.{eqb}
use lib.Seq.{take_at, drop_at, get_or-take, drop-drop}
use denote.Ref.{Bor}
use Rattle.std.specs.Prelude.{Some, None}
use Rattle.std.specs.List.{list_all}
use Rattle.std.specs.Simd.{first_chunks}
use Rattle.std.specs.Slice.Iter.{chunks_exact_rest, chunks_exact_size, chunks_exact_steps}
use Rattle.std.specs.declared.slice.ChunksExact.{ChunksExact}
use Rattle.std.proofs.lemmas.Iterator.{YieldsList}
use Rattle.std.proofs.lemmas.Iterator.Splits.{YieldsList-from_shown_while}
use Rattle.format.specs.Newest.{all_plan, all_zero, carried}

-- the whole blocks of a list
abbrev pub cut : List ℕ → List (List ℕ)
cut l = first_chunks 64 (length l / 64) l

cut_more : (l block rest : List ℕ) → l ≡ block ++ rest → length block ≡ 64 → cut l ≡ block ∷ cut rest
cut_more l block rest e n =
    let m : length l ≡ 64 + length rest = ap length e ∙ omega (arith, length-append block rest, n) in
    let k : length l / 64 ≡ suc (length rest / 64) = omega (arith, m) in
    rw k (rw e (rw (take_at block rest 64 n, drop_at block rest 64 n)))

pub blocks_yielded : (l : List ℕ) {s : ChunksExact ℕ} → chunks_exact_rest s ≡ l → chunks_exact_size s ≡ 64
    → YieldsList chunks_exact_steps (λ x. x.now) s (cut l)
blocks_yielded l {s} e size =
    let none : (s t : ChunksExact ℕ) → chunks_exact_size s ≡ 64 → chunks_exact_steps s None t → length (cut (chunks_exact_rest s)) ≡ 0 =
    (λ s t h x. let k : length (chunks_exact_rest s) / 64 ≡ 0 = omega (arith, x.1.0, h) in rw k) in
    let some : (s : ChunksExact ℕ) (x : Bor (List ℕ)) (t : ChunksExact ℕ) → chunks_exact_size s ≡ 64 → chunks_exact_steps s (Some x) t
    → (chunks_exact_size t ≡ 64) × (cut (chunks_exact_rest s) ≡ x.now ∷ cut (chunks_exact_rest t)) =
    (λ s x t h c. (c.0 ∙ h, cut_more (chunks_exact_rest s) x.now (chunks_exact_rest t) c.1.0 (c.1.1 ∙ h))) in
    subst (λ (k : List ℕ). YieldsList chunks_exact_steps (λ x. x.now) s (cut k)) e
    (YieldsList-from_shown_while chunks_exact_steps (λ x. x.now) (λ s. cut (chunks_exact_rest s)) (λ s. chunks_exact_size s ≡ 64) none some s size)

pub plan_is : (n : ℕ) (l : List ℕ) → list_all (λ b. eqb (get_or b 0 0) 1) (first_chunks 64 n l) ≡ all_plan n l
plan_is zero l = refl
plan_is (suc n) l = rw (get_or-take 64 l 0 0 (omega arith), plan_is n (drop 64 l))

pub zero_is : (l : List ℕ) → list_all (λ b. eqb b 0) l ≡ all_zero l
zero_is [] = refl
zero_is (b ∷ l) = rw (zero_is l)

length_cut : (n : ℕ) (l : List ℕ) → length (first_chunks 64 n l) ≡ n
length_cut zero l = refl
length_cut (suc n) l = rw (length_cut n (drop 64 l))

get_cut : (n : ℕ) (l : List ℕ) (k : ℕ) (d : List ℕ) → k < n → get_or (first_chunks 64 n l) k d ≡ take 64 (drop (64 * k) l)
get_cut zero l k d h = absurd (omega arith)
get_cut (suc n) l zero d h = refl
get_cut (suc n) l (suc k) d h =
    let e : 64 + 64 * k ≡ 64 * suc k = omega arith in
    get_cut n (drop 64 l) k d (omega arith) ∙ rw (drop-drop (64 * k) 64 l, e)

-- what one block more carries
carried_more : (k : ℕ) (l : List ℕ) → carried (suc k) l ≡ carried k l ++ take 63 (drop 1 (drop (64 * k) l))
carried_more zero l = append-nil (take 63 (drop 1 l))
carried_more (suc k) l =
    let e : 64 + 64 * k ≡ 64 * suc k = omega arith in
    ap (λ (r : List ℕ). take 63 (drop 1 l) ++ r) (carried_more k (drop 64 l) ∙ rw (drop-drop (64 * k) 64 l, e))
    ∙ sym (append_assoc (take 63 (drop 1 l)) (carried k (drop 64 l)) (take 63 (drop 1 (drop (64 * suc k) l))))

-- a block's bytes after the first are what it carries
pub next_block : (l : List ℕ) (xs : List (Bor (List ℕ))) (x : Bor (List ℕ)) → (length xs < length (cut l)) × (x.now ≡ get_or (cut l) (length xs) x.now)
    → carried (length (xs ++ x ∷ [])) l ≡ carried (length xs) l ++ take (length x.now - 1) (drop 1 x.now)
next_block l xs x t =
    let k : length (xs ++ x ∷ []) ≡ suc (length xs) = length-append xs (x ∷ []) ∙ omega arith in
    let n : length xs < length l / 64 = omega (arith, t.0, length_cut (length l / 64) l) in
    let e : x.now ≡ take 64 (drop (64 * length xs) l) = t.1 ∙ get_cut (length l / 64) l (length xs) x.now n in
    let m : take (length x.now - 1) (drop 1 x.now) ≡ take 63 (drop 1 (drop (64 * length xs) l)) =
    to_end x.now 1 ∙ ap (drop 1) e ∙ drop-take 1 63 (drop (64 * length xs) l) in
    rw (k, m) (carried_more (length xs) l)

pub all_blocks : (l : List ℕ) (xs : List (Bor (List ℕ))) → length xs ≡ length (cut l) → carried (length xs) l ≡ carried (length l / 64) l
all_blocks l xs e = ap (λ (k : ℕ). carried k l) (e ∙ length_cut (length l / 64) l)

-- how much blocks carry
pub carried_length_lem : (count : ℕ) (blocks : List ℕ) → 64 * count ≤ length blocks → length (carried count blocks) ≡ 63 * count
carried_length_lem zero blocks h = refl
carried_length_lem (suc count) blocks h =
    length-append (take 63 (drop 1 blocks)) (carried count (drop 64 blocks))
    ∙ omega (arith, length-take 63 (drop 1 blocks), length-drop 1 blocks, carried_length_lem count (drop 64 blocks) (omega (arith, length-drop 64 blocks)))

pub carried_whole : (l : List ℕ) → length (carried (length l / 64) l) ≡ 63 * (length l / 64)
carried_whole l = carried_length_lem (length l / 64) l (omega arith)
