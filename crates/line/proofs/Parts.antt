-- A text and its parts between marks say the same.
use mathlib.Core.Path.{◌≡◌, refl}
use mathlib.Core.Bool.{Bool, true, false, ◌||◌}
use mathlib.Core.List.{List, [], ◌∷◌, ◌++◌}
use Prim.Native.Nat.{ℕ}
use native.Mathlib.Omega.{arith}
use lib.Dec.{eqb}
use borrow.Author.Tests.{eq-eqb, eqb-true}
use Rattle.task.proofs.Refusing.{neither}
use Rattle.decimal.proofs.Decimal.{All}
use Rattle.line.specs.Lines.{begin, parts}

-- from two constructors that are equal, by `cc`
pub never : {G : Type 0} → ◌≡◌ {A = ℕ} 0 1 → G
never e = absurd (omega arith)

module _ (mark : ℕ) where
  abbrev pub has : List ℕ → Bool
  has [] = false
  has (b ∷ s) = eqb b mark || has s

  abbrev pub Without : List ℕ → Type 0
  Without s = has s ≡ false

  -- parts with one mark between them
  abbrev pub joined : List (List ℕ) → List ℕ
  joined [] = []
  joined (part ∷ []) = part
  joined (part ∷ more ∷ rest) = part ++ mark ∷ joined (more ∷ rest)

  pub parts_none : (s : List ℕ) → Without s → parts mark s ≡ s ∷ []
  parts_none [] h = refl
  parts_none (b ∷ s) h = let n = neither (eqb b mark) (has s) h in rw (n.0, parts_none s n.1)

  pub parts_mark : (s t : List ℕ) → Without s → parts mark (s ++ mark ∷ t) ≡ s ∷ parts mark t
  parts_mark [] t h = rw (eq-eqb mark mark refl)
  parts_mark (b ∷ s) t h = let n = neither (eqb b mark) (has s) h in rw (n.0, parts_mark s t n.1)

  pub parts_joined : (part : List ℕ) (more : List (List ℕ)) → All Without (part ∷ more) → parts mark (joined (part ∷ more)) ≡ part ∷ more
  parts_joined part [] h = parts_none part h.0
  parts_joined part (next ∷ more) h = rw (parts_mark part (joined (next ∷ more)) h.0, parts_joined next more h.1)

  joined_begin : (s : List ℕ) (b : ℕ) (c : Bool) → eqb b mark ≡ c → (part : List ℕ) (more : List (List ℕ))
      → joined (part ∷ more) ≡ s → joined (begin c b (part ∷ more)) ≡ b ∷ s
  joined_begin s b true q part more e = rw (e, eqb-true b mark q)
  joined_begin s b false q part [] e = rw e
  joined_begin s b false q part (next ∷ more) e = rw e

  -- there is always a part
  some_part : (P : List (List ℕ) → Type 0) → ((part : List ℕ) (more : List (List ℕ)) → P (part ∷ more)) → (s : List ℕ) → P (parts mark s)
  some_part P some [] = some [] []
  some_part P some (b ∷ s) = go (eqb b mark) (parts mark s)
    where
      go : (c : Bool) (more : List (List ℕ)) → P (begin c b more)
      go true more = some [] more
      go false [] = some (b ∷ []) []
      go false (part ∷ more) = some (b ∷ part) more

  pub joined_parts : (s : List ℕ) → joined (parts mark s) ≡ s
  joined_parts [] = refl
  joined_parts (b ∷ s) =
      some_part (λ all. joined all ≡ s → joined (begin (eqb b mark) b all) ≡ b ∷ s) (joined_begin s b (eqb b mark) refl) s (joined_parts s)

without_append : (mark : ℕ) (s t : List ℕ) → Without mark s → Without mark t → Without mark (s ++ t)
without_append mark [] t h q = q
without_append mark (b ∷ s) t h q = let n = neither (eqb b mark) (has mark s) h in rw n.0 (without_append mark s t n.1 q)

-- parts that have no mark, joined by another
pub without_joined : (mark other : ℕ) → eqb other mark ≡ false → (all : List (List ℕ)) → All (Without mark) all → Without mark (joined other all)
without_joined mark other differ [] h = refl
without_joined mark other differ (part ∷ []) h = h.0
without_joined mark other differ (part ∷ next ∷ more) h =
    without_append mark part (other ∷ joined other (next ∷ more)) h.0 (rw differ (without_joined mark other differ (next ∷ more) h.1))
