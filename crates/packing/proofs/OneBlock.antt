-- One block: its kind, and the entries that it carries, from two lists, with zeros after them.
use mathlib.Core.Path.{◌≡◌, sym, ◌∙◌, ap}
use mathlib.Core.List.{List, [], ◌∷◌, ◌++◌}
use Prim.Native.Nat.{ℕ, ◌+◌, ◌-◌, ◌≤◌, min}
use native.Mathlib.Omega.{arith}
use lib.ListN.{length, take, drop, set, replicate, length-append, length-take, length-drop, length-set}
use lib.Seq.{length-take-le, take_at, take-suc-set}
use Rattle.format.specs.Blocks.{padded}
use Rattle.format.proofs.Lists.{take_append, drop_append}

-- bytes that are copied into a slice after its first n, up to place r
module _ (dst src : List ℕ) (n r : ℕ) (h : n ≤ length dst) (place : r ≡ n + length (take (length dst - n) src)) where
  filled_place : r ≡ n + min (length dst - n) (length src)
  filled_place = place ∙ ap (λ (k : ℕ). n + k) (length-take (length dst - n) src)

  filled_fits : r ≤ length dst
  filled_fits = omega (arith, filled_place)

  module _ (next : List ℕ) (filled : next ≡ take n dst ++ take (length dst - n) src ++ drop r dst) where
    front_length : length (take n dst ++ take (length dst - n) src) ≡ r
    front_length = length-append (take n dst) (take (length dst - n) src) ∙ omega (arith, place, length-take-le n dst h)

    filled_length : length next ≡ length dst
    filled_length =
        ap length filled ∙ length-append (take n dst ++ take (length dst - n) src) (drop r dst)
        ∙ omega (arith, front_length, filled_fits, length-drop r dst)

    filled_front : take r next ≡ take n dst ++ take (length dst - n) src
    filled_front = ap (take r) filled ∙ take_at (take n dst ++ take (length dst - n) src) (drop r dst) r front_length

-- the entries that a block carries, where they come from two lists
padded_both : (n : ℕ) (xs ys : List ℕ) →
    padded n (xs ++ ys) ≡ take n xs ++ take (n - length xs) ys ++ replicate (n - length xs - length ys) 0
padded_both n xs ys =
    let e : n - length (xs ++ ys) ≡ n - length xs - length ys = omega (arith, length-append xs ys) in
    rw (e, take_append n xs ys)

-- a block: its kind, what is left of startup from `from` on, what is left of cycle, and zeros
module _ (startup cycle out : List ℕ) (from n : ℕ) (o : List ℕ) (whole : length out ≡ 64)
    (place : n ≡ 1 + length (take (length (set out 0 1) - 1) (drop from startup)))
    (filled : o ≡ take 1 (set out 0 1) ++ take (length (set out 0 1) - 1) (drop from startup) ++ drop n (set out 0 1)) where
  one : length (set out 0 1) ≡ 64
  one = length-set out 0 1 ∙ whole

  block_room : n ≤ length o
  block_room =
      omega (
        arith,
        one,
        filled_fits (set out 0 1) (drop from startup) 1 n (omega (arith, one)) place,
        filled_length (set out 0 1) (drop from startup) 1 n (omega (arith, one)) place o filled,
      )

  block_length_lem : length o ≡ 64
  block_length_lem = filled_length (set out 0 1) (drop from startup) 1 n (omega (arith, one)) place o filled ∙ one

  module _ (m : ℕ) (p : List ℕ) (place2 : m ≡ n + length (take (length o - n) (drop (from - length startup) cycle)))
      (filled2 : p ≡ take n o ++ take (length o - n) (drop (from - length startup) cycle) ++ drop m o) where
    block_length2 : length p ≡ 64
    block_length2 = filled_length o (drop (from - length startup) cycle) n m block_room place2 p filled2 ∙ block_length_lem

    pub block_laid : (q : List ℕ) → q ≡ take m p ++ replicate (length p - m) 0 → q ≡ 1 ∷ padded 63 (drop from (startup ++ cycle))
    block_laid q zeros =
        let first : take 1 (set out 0 1) ≡ 1 ∷ [] = take-suc-set out 0 1 (omega arith) in
        let a : length (set out 0 1) - 1 ≡ 63 = omega (arith, one) in
        let b : length o - n ≡ 63 - length (drop from startup) =
        omega (arith, one, block_length_lem, filled_place (set out 0 1) (drop from startup) 1 n (omega (arith, one)) place) in
        let d : length p - m ≡ 63 - length (drop from startup) - length (drop (from - length startup) cycle) =
        omega (arith, b, block_length_lem, block_length2, filled_place o (drop (from - length startup) cycle) n m block_room place2) in
        zeros
        ∙ ap (λ (l : List ℕ). l ++ replicate (length p - m) 0)
        (filled_front o (drop (from - length startup) cycle) n m block_room place2 p filled2
        ∙ ap (λ (l : List ℕ). l ++ take (length o - n) (drop (from - length startup) cycle))
        (filled_front (set out 0 1) (drop from startup) 1 n (omega (arith, one)) place o filled))
        ∙ rw (first, a, b, d, drop_append from startup cycle) (ap (λ (l : List ℕ). 1 ∷ l) (sym (padded_both 63 (drop from startup) (drop (from - length startup) cycle))))
