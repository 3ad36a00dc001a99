-- Where a mark stands, what stands behind it, and whether two texts are the same.
use mathlib.Core.Path.{◌≡◌, refl, sym}
use Rattle.std.specs.Prelude.{position, unwrap_or}
use Rattle.std.specs.List.{position_or_len}
use native.Mathlib.Decide.{dec_lt}
use mathlib.Core.Bool.{Bool, true, false, not, cond}
use mathlib.Core.List.{List, [], ◌∷◌}
use Prim.Native.Nat.{ℕ, suc, ◌+◌, ◌-◌, ◌≤◌, ◌<◌}
use native.Mathlib.Omega.{arith}
use lib.Dec.{eqb}
use lib.ListN.{length, take, drop, length-drop, drop_of_length-le}
use lib.Seq.{take_all, drop-cons, length-take-le}
use borrow.Author.Tests.{lt-ltb, le-ltb}
use Rattle.line.specs.Lines.{begin, parts}
use Rattle.line.specs.Places.{suc_unless, until}

pub until_le : (mark : ℕ) (s : List ℕ) → until mark s ≤ length s
until_le mark [] = omega arith
until_le mark (b ∷ s) = go (eqb b mark) (until_le mark s)
  where
    go : (t : Bool) → until mark s ≤ length s → suc_unless t (until mark s) ≤ suc (length s)
    go true h = omega arith
    go false h = omega arith

-- the first byte that is the mark
until_position : (mark : ℕ) (s : List ℕ) → position_or_len (λ b. eqb b mark) s ≡ until mark s
until_position mark [] = refl
until_position mark (b ∷ s) = go (eqb b mark) (until_position mark s)
  where
    go : (t : Bool) → position_or_len (λ b. eqb b mark) s ≡ until mark s
        → cond (not t) (1 + position_or_len (λ b. eqb b mark) s) 0 ≡ suc_unless t (until mark s)
    go true e = refl
    go false e = rw e (omega arith)

pub until_first : (mark : ℕ) (s : List ℕ) → unwrap_or (position (λ b. eqb b mark) s) (length s) ≡ until mark s
until_first mark s =
    rw (until_position mark s)
    (elim (dec_lt (until mark s) (length s)) [
      | yes h ↦ rw (lt-ltb (until mark s) (length s) h)
      | no h ↦ rw (le-ltb (until mark s) (length s) (omega arith)) (omega (arith, until_le mark s))
    ])

-- what is left of a text behind the place i
pub rest_is : (s : List ℕ) (i : ℕ) → take (length s - i) (drop i s) ≡ drop i s
rest_is s i = take_all (length s - i) (drop i s) (rw length-drop (omega arith))

pub until_taken : (mark n : ℕ) (s : List ℕ) → n ≡ until mark s → n ≡ length (take n s)
until_taken mark n s e = sym (length-take-le n s (rw e (until_le mark s)))

-- the first mark behind the place i stands inside, or at the end
pub until_inside : (mark n : ℕ) (s : List ℕ) (i : ℕ) → i ≤ length s → n ≡ until mark (take (length s - i) (drop i s)) → i + n ≤ length s
until_inside mark n s i h e =
    let f : n ≡ until mark (drop i s) = rw rest_is at e in
    omega (arith, f, until_le mark (drop i s), length-drop i s)

-- the parts behind a mark, if there is one
abbrev pub behind : ℕ → List ℕ → List (List ℕ)
behind mark [] = []
behind mark (b ∷ s) = parts mark s

pub parts_until : (mark : ℕ) (s : List ℕ) → parts mark s ≡ take (until mark s) s ∷ behind mark (drop (until mark s) s)
parts_until mark [] = refl
parts_until mark (b ∷ s) = go (eqb b mark) (parts_until mark s)
  where
    go : (t : Bool) → parts mark s ≡ take (until mark s) s ∷ behind mark (drop (until mark s) s)
        → begin t b (parts mark s) ≡ take (suc_unless t (until mark s)) (b ∷ s) ∷ behind mark (drop (suc_unless t (until mark s)) (b ∷ s))
    go true e = refl
    go false e = rw e

pub behind_none : (mark : ℕ) (s : List ℕ) (i : ℕ) → length s ≤ i → behind mark (drop i s) ≡ []
behind_none mark s i h = rw (drop_of_length-le s {i = i} h)

pub behind_mark : (mark : ℕ) (s : List ℕ) (i : ℕ) → i < length s → behind mark (drop i s) ≡ parts mark (drop (suc i) s)
behind_mark mark s i h = rw (drop-cons s i 0 h)
