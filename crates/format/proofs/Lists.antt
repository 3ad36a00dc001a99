-- Parts of lists one after the other.
use mathlib.Core.Path.{◌≡◌, refl, sym, ap}
use mathlib.Core.Bool.{true}
use mathlib.Core.List.{List, [], ◌∷◌, ◌++◌}
use Prim.Native.Nat.{ℕ, zero, suc, ◌+◌, ◌-◌, ◌≤◌}
use native.Mathlib.Nat.{zero-add, suc-add, zero-sub, sub-zero, suc-sub-suc, add-sub_cancel_left}
use native.Mathlib.Omega.{arith}
use lib.ListN.{length, take, drop, replicate, length-drop, replicate-append-replicate}
use lib.Seq.{length-take-le, take-nil, take_all, drop-nil}
use Rattle.format.specs.Blocks.{padded}
use Rattle.format.specs.Newest.{all_zero}

-- where a part of two lists ends or begins in either
pub take_append : (n : ℕ) (xs ys : List ℕ) → take n (xs ++ ys) ≡ take n xs ++ take (n - length xs) ys
take_append n [] ys = rw (take-nil, sub-zero)
take_append zero (x ∷ xs) ys = rw zero-sub
take_append (suc n) (x ∷ xs) ys = rw suc-sub-suc (ap (λ (l : List ℕ). x ∷ l) (take_append n xs ys))

pub drop_append : (n : ℕ) (xs ys : List ℕ) → drop n (xs ++ ys) ≡ drop n xs ++ drop (n - length xs) ys
drop_append n [] ys = rw (drop-nil, sub-zero)
drop_append zero (x ∷ xs) ys = rw zero-sub
drop_append (suc n) (x ∷ xs) ys = rw suc-sub-suc (drop_append n xs ys)

-- a part that goes to the end is what is left from its start on
pub to_end : (l : List ℕ) (i : ℕ) → take (length l - i) (drop i l) ≡ drop i l
to_end l i = take_all (length l - i) (drop i l) (omega (arith, length-drop i l))

-- a part of k elements
pub part_length : (l : List ℕ) (a k : ℕ) → a + k ≤ length l → length (take (a + k - a) (drop a l)) ≡ k
part_length l a k h = rw (add-sub_cancel_left a k) (length-take-le k (drop a l) (omega (arith, length-drop a l)))

padded_none : (n : ℕ) → padded n [] ≡ replicate n 0
padded_none n = rw (take-nil, sub-zero)

pub padded_add : (a b : ℕ) (l : List ℕ) → padded (a + b) l ≡ padded a l ++ padded b (drop a l)
padded_add zero b l = rw (zero-add, zero-sub)
padded_add (suc a) b [] = rw (padded_none, padded_none, drop-nil, padded_none) (sym (replicate-append-replicate (suc a) b 0))
padded_add (suc a) b (x ∷ l) = rw (suc-add, suc-sub-suc, suc-sub-suc) (ap (λ (r : List ℕ). x ∷ r) (padded_add a b l))

pub zeros_zero : (n : ℕ) → all_zero (replicate n 0) ≡ true
zeros_zero zero = refl
zeros_zero (suc n) = zeros_zero n
