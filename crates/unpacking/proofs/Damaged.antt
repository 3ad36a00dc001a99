-- The last trailer is refused, or not, by the tests of it and of what it covers.
use mathlib.Core.Path.{◌≡◌, sym, ◌∙◌, ap}
use mathlib.Core.Bool.{Bool, true, false, not, ◌||◌}
use mathlib.Core.List.{List, append-nil}
use Prim.Native.Nat.{ℕ, zero, suc, ◌+◌, ◌-◌, ◌*◌, ◌/◌, ◌≤◌}
use native.Mathlib.Nat.{sub-zero}
use native.Mathlib.Omega.{arith}
use lib.Dec.{eqb}
use lib.ListN.{length, take, drop, length-take, length-drop, drop_of_length-le}
use lib.Seq.{take_all, drop-nil, drop-drop, drop-append-add}
use borrow.Author.Tests.{eq-eqb, le-ltb, ltb-false, eqb-true, not-false}
use Rattle.std.proofs.lemmas.Bool.{or_left, or_right, or_parts}
use Rattle.format.specs.Blocks.{blocks_for}
use Rattle.format.specs.Newest.{block_count, startup_length, cycle_length, entries_length, covered, entries, is_damaged, all_plan, all_zero, carried, wrong_count, before_start, other_kind, nonzero_pad, nonzero_rest}
use Rattle.format.proofs.Lists.{to_end}
use Rattle.unpacking.proofs.Covered.{part, part_is, part_length}

-- what all but the first b blocks carry
carried_drop : (b count : ℕ) (blocks : List ℕ) → b ≤ count → 64 * count ≤ length blocks
    → drop (63 * b) (carried count blocks) ≡ carried (count - b) (drop (64 * b) blocks)
carried_drop zero count blocks h fits = rw (sub-zero count)
carried_drop (suc b) zero blocks h fits = absurd (omega arith)
carried_drop (suc b) (suc count) blocks h fits =
    let e : 63 * suc b ≡ length (take 63 (drop 1 blocks)) + 63 * b = omega (arith, length-take 63 (drop 1 blocks), length-drop 1 blocks) in
    let f : 64 * suc b ≡ 64 + 64 * b = omega arith in
    let g : suc count - suc b ≡ count - b = omega arith in
    ap (λ (k : ℕ). drop k (carried (suc count) blocks)) e
    ∙ drop-append-add (take 63 (drop 1 blocks)) (carried count (drop 64 blocks)) (63 * b)
    ∙ carried_drop b count (drop 64 blocks) (omega arith) (omega (arith, length-drop 64 blocks))
    ∙ rw (f, g, drop-drop (64 * b) 64 blocks)

-- the pads are the last bytes of the blocks: n first bytes and e entries come before them
pads_last : (n e : ℕ) (blocks : List ℕ) → length blocks ≡ 64 * n → 63 * n ≤ e + 63 → drop e (carried n blocks) ≡ drop (n + e) blocks
pads_last zero e blocks w h = drop-nil e ∙ sym (drop_of_length-le blocks {i = 0 + e} (omega arith))
pads_last (suc n) e blocks w h =
    let k : 63 * n + (e - 63 * n) ≡ e = omega arith in
    let one : suc n - n ≡ 1 = omega arith in
    let j : 64 * n + 1 + (e - 63 * n) ≡ suc n + e = omega arith in
    ap (λ (i : ℕ). drop i (carried (suc n) blocks)) (sym k)
    ∙ sym (drop-drop (e - 63 * n) (63 * n) (carried (suc n) blocks))
    ∙ ap (drop (e - 63 * n))
    (carried_drop n (suc n) blocks (omega arith) (omega arith)
    ∙ ap (λ (i : ℕ). carried i (drop (64 * n) blocks)) one
    ∙ append-nil (take 63 (drop 1 (drop (64 * n) blocks)))
    ∙ ap (take 63) (drop-drop 1 (64 * n) blocks)
    ∙ take_all 63 (drop (64 * n + 1) blocks) (omega (arith, length-drop (64 * n + 1) blocks)))
    ∙ drop-drop (e - 63 * n) (64 * n + 1) blocks
    ∙ ap (λ (i : ℕ). drop i blocks) j

-- the trailer's three numbers, as they are read, and the first two tests
module _ (before trailer : List ℕ) (count startup cycle : ℕ)
    (is-count : count ≡ block_count trailer) (is_startup : startup ≡ startup_length trailer) (is_cycle : cycle ≡ cycle_length trailer)
    (right : count ≡ blocks_for (startup + cycle)) (inside : 64 * count ≤ length before) (whole : length trailer ≡ 64) where
  abbrev sum : ℕ
  sum = startup + cycle

  is_sum : sum ≡ entries_length trailer
  is_sum = rw (is_startup, is_cycle)

  abbrev blocks : List ℕ
  blocks = part before count

  blocks_covered : blocks ≡ covered before trailer
  blocks_covered = part_is before count ∙ ap (λ (k : ℕ). drop (length before - 64 * k) before) is-count

  blocks_count : length blocks / 64 ≡ block_count trailer
  blocks_count = omega (arith, part_length before count inside, is-count)

  abbrev pads : List ℕ
  pads = take (length blocks - (count + sum)) (drop (count + sum) blocks)

  pads_are : pads ≡ drop (entries_length trailer) (entries before trailer)
  pads_are =
      to_end blocks (count + sum)
      ∙ sym (pads_last count sum blocks (part_length before count inside) (omega arith))
      ∙ rw (blocks_covered, is-count, is_sum)

  abbrev w : Bool
  w = wrong_count trailer

  abbrev b : Bool
  b = before_start before trailer

  abbrev o : Bool
  o = other_kind before trailer

  abbrev p : Bool
  p = nonzero_pad before trailer

  pub by_pad : all_zero pads ≡ false → is_damaged before trailer ≡ true
  by_pad h =
      let e : p ≡ true = ap not (ap all_zero (sym pads_are) ∙ h) in
      or_left (w || b || o || p) (nonzero_rest trailer) (or_right (w || b || o) p e)

  pub by_rest : all_zero (take 57 (drop 7 trailer)) ≡ false → is_damaged before trailer ≡ true
  by_rest h =
      let e : nonzero_rest trailer ≡ true = ap not (ap all_zero (sym (take_all 57 (drop 7 trailer) (omega (arith, whole, length-drop 7 trailer)))) ∙ h) in
      or_right (w || b || o || p) (nonzero_rest trailer) e

  pub by_none : all_plan (length blocks / 64) blocks ≡ true → all_zero pads ≡ true → all_zero (take 57 (drop 7 trailer)) ≡ true
      → (is_damaged before trailer ≡ false) × (blocks ≡ covered before trailer)
  by_none kinds zeros rest =
      let ew : w ≡ false = ap not (eq-eqb (block_count trailer) (blocks_for (entries_length trailer)) (rw (is-count, is_sum) at right)) in
      let eb : b ≡ false = le-ltb (length before) (64 * block_count trailer) (rw is-count at inside) in
      let eo : o ≡ false = ap not (rw (blocks_count, blocks_covered) at kinds) in
      let ep : p ≡ false = ap not (ap all_zero (sym pads_are) ∙ zeros) in
      let er : nonzero_rest trailer ≡ false = ap not (ap all_zero (sym (take_all 57 (drop 7 trailer) (omega (arith, whole, length-drop 7 trailer)))) ∙ rest) in
      (rw (ew, eb, eo, ep, er), blocks_covered)

-- a trailer that is not refused: as many blocks as its entries take, and none of them before the start
module _ (before trailer : List ℕ) (fine : is_damaged before trailer ≡ false) where
  first_two : (wrong_count trailer ≡ false) × (before_start before trailer ≡ false)
  first_two =
      let w : Bool = wrong_count trailer in
      let b : Bool = before_start before trailer in
      let o : Bool = other_kind before trailer in
      let p : Bool = nonzero_pad before trailer in
      or_parts w b (or_parts (w || b) o (or_parts (w || b || o) p (or_parts (w || b || o || p) (nonzero_rest trailer) fine).0).0).0

  pub right_count : block_count trailer ≡ blocks_for (entries_length trailer)
  right_count =
      eqb-true (block_count trailer) (blocks_for (entries_length trailer))
      (not-false (eqb (block_count trailer) (blocks_for (entries_length trailer))) first_two.0)

  pub inside : 64 * block_count trailer ≤ length before
  inside = ltb-false (length before) (64 * block_count trailer) first_two.1

  pub covered_length : length (covered before trailer) ≡ 64 * block_count trailer
  covered_length = sym (ap length (part_is before (block_count trailer))) ∙ part_length before (block_count trailer) inside
