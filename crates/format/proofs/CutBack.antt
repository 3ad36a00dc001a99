-- A log that has been cut back stays as it is: what comes after it changes nothing until it has a whole trailer.
use mathlib.Core.Path.{◌≡◌, refl, sym, ◌∙◌, ap}
use mathlib.Core.Bool.{Bool, true, false, cond}
use mathlib.Core.List.{List, ◌++◌}
use Prim.Native.Nat.{ℕ, zero, suc, ◌+◌, ◌-◌, ◌*◌, ◌≤◌, ◌<◌}
use native.Mathlib.Nat.{add-zero, add-suc}
use native.Mathlib.Omega.{arith}
use lib.Dec.{eqb}
use lib.ListN.{length, take, get_or, length-append, length-take, get_or-append}
use lib.Seq.{length-take-le, take-take, take_all, take_at, get_or-take, get_or-append-add}
use borrow.Author.Tests.{eq-eqb, ne_eqb}
use Rattle.format.specs.Newest.{blocks_kept, whole_blocks, kept}

kept_le : (log : List ℕ) (n : ℕ) → blocks_kept log n ≤ n
kept_le log zero = omega arith
kept_le log (suc n) = go (eqb (get_or log (64 * n) 0) 2) (kept_le log n)
  where
    go : (b : Bool) → blocks_kept log n ≤ n → cond b (suc n) (blocks_kept log n) ≤ suc n
    go true h = omega arith
    go false h = omega arith

-- the blocks that are kept are kept by themselves
kept_again : (log : List ℕ) (n : ℕ) → blocks_kept log (blocks_kept log n) ≡ blocks_kept log n
kept_again log zero = refl
kept_again log (suc n) = go (eqb (get_or log (64 * n) 0) 2) refl (kept_again log n)
  where
    go : (b : Bool) → eqb (get_or log (64 * n) 0) 2 ≡ b → blocks_kept log (blocks_kept log n) ≡ blocks_kept log n
        → blocks_kept log (cond b (suc n) (blocks_kept log n)) ≡ cond b (suc n) (blocks_kept log n)
    go true e h = rw e
    go false e h = h

-- only kinds matter
kept_alike : (a b : List ℕ) (n : ℕ) → ((i : ℕ) → i < n → get_or a (64 * i) 0 ≡ get_or b (64 * i) 0) → blocks_kept a n ≡ blocks_kept b n
kept_alike a b zero h = refl
kept_alike a b (suc n) h = rw (h n (omega arith), kept_alike a b n (λ i q. h i (omega arith)))

-- n blocks more, none of them a trailer
kept_over : (log : List ℕ) (m n : ℕ) → ((i : ℕ) → i < n → eqb (get_or log (64 * (m + i)) 0) 2 ≡ false) → blocks_kept log (m + n) ≡ blocks_kept log m
kept_over log m zero h = rw add-zero
kept_over log m (suc n) h = rw (add-suc, h n (omega arith)) (kept_over log m n (λ i q. h i (omega arith)))

-- the last of n blocks is a trailer: all are kept
pub kept_trailer : (log : List ℕ) (n : ℕ) → 0 < n → get_or log (64 * (n - 1)) 0 ≡ 2 → blocks_kept log n ≡ n
kept_trailer log zero h e = absurd (omega arith)
kept_trailer log (suc n) h e =
    let q : suc n - 1 ≡ n = omega arith in
    let t : get_or log (64 * n) 0 ≡ 2 = rw q at e in
    rw t

-- it is none: one block further back
pub kept_other : (log : List ℕ) (n : ℕ) → 0 < n → (get_or log (64 * (n - 1)) 0 ≡ 2 → ⊥) → blocks_kept log (n - 1) ≡ blocks_kept log n
kept_other log zero h e = absurd (omega arith)
kept_other log (suc n) h e =
    let q : suc n - 1 ≡ n = omega arith in
    let t : eqb (get_or log (64 * n) 0) 2 ≡ false = ne_eqb (get_or log (64 * n) 0) 2 (rw q at e) in
    rw (q, t)

module _ (log : List ℕ) where
  kept_fits : 64 * blocks_kept log (whole_blocks log) ≤ length log
  kept_fits = omega (arith, kept_le log (whole_blocks log))

  pub kept_length : length (kept log) ≡ 64 * blocks_kept log (whole_blocks log)
  kept_length = length-take-le (64 * blocks_kept log (whole_blocks log)) log kept_fits

pub kept_short : (log : List ℕ) → length (kept log) ≤ length log
kept_short log = omega (arith, kept_length log, kept_fits log)

-- what is kept of the first n bytes is no more than there is
pub start_fits : (log : List ℕ) (n : ℕ) → length (kept (take n log)) ≤ length log
start_fits log n = omega (arith, kept_short (take n log), length-take n log)

-- it is a front of the log
pub kept_is_front : (log : List ℕ) (n : ℕ) → n ≡ length (kept log) → take n log ≡ kept log
kept_is_front log n e = ap (λ (k : ℕ). take k log) (e ∙ kept_length log)

pub start_front : (log : List ℕ) (n : ℕ) → take (length (kept (take n log))) log ≡ kept (take n log)
start_front log n =
    ap (λ (k : ℕ). take k log) (kept_length (take n log))
    ∙ sym (take-take (64 * blocks_kept (take n log) (whole_blocks (take n log))) n log (omega (arith, kept_fits (take n log), length-take n log)))

module _ (log more : List ℕ) where
  -- the log that has been cut back, and what comes after it
  abbrev long : List ℕ
  long = kept log ++ more

  abbrev m : ℕ
  m = blocks_kept log (whole_blocks log)

  long_length : length long ≡ 64 * m + length more
  long_length = length-append (kept log) more ∙ ap (λ (k : ℕ). k + length more) (kept_length log)

  kind_before : (i : ℕ) → i < m → get_or long (64 * i) 0 ≡ get_or log (64 * i) 0
  kind_before i h =
      get_or-append (kept log) more 0 (64 * i) (omega (arith, kept_length log)) ∙ get_or-take (64 * m) log (64 * i) 0 (omega arith)

  kind_after : (i : ℕ) → get_or long (64 * (m + i)) 0 ≡ get_or more (64 * i) 0
  kind_after i =
      let e : 64 * (m + i) ≡ length (kept log) + 64 * i = omega (arith, kept_length log) in
      ap (λ (k : ℕ). get_or long k 0) e ∙ get_or-append-add (kept log) more (64 * i) 0

  kept_start : blocks_kept long m ≡ m
  kept_start = kept_alike long log m kind_before ∙ kept_again log (whole_blocks log)

  -- no whole block of what comes after is a trailer
  pub kept_torn : ((i : ℕ) → i < whole_blocks more → eqb (get_or more (64 * i) 0) 2 ≡ false) → kept long ≡ kept log
  kept_torn h =
      let e : whole_blocks long ≡ m + whole_blocks more = omega (arith, long_length) in
      let k : blocks_kept long (whole_blocks long) ≡ m =
      ap (blocks_kept long) e ∙ kept_over long m (whole_blocks more) (λ i q. rw (kind_after i) (h i q)) ∙ kept_start in
      rw k (take_at (kept log) more (64 * m) (kept_length log))

  -- the last block of what comes after is one
  pub kept_whole : (n : ℕ) → length more ≡ 64 * suc n → get_or more (64 * n) 0 ≡ 2 → kept long ≡ long
  kept_whole n e h =
      let q : whole_blocks long ≡ suc (m + n) = omega (arith, long_length) in
      let t : eqb (get_or long (64 * (m + n)) 0) 2 ≡ true = eq-eqb (get_or long (64 * (m + n)) 0) 2 (kind_after n ∙ h) in
      let k : blocks_kept long (whole_blocks long) ≡ suc (m + n) = ap (blocks_kept long) q ∙ rw t in
      rw k (take_all (64 * suc (m + n)) long (omega (arith, long_length)))
