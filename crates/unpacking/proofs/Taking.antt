-- Entries taken from the blocks that carry them: what startup has no room for goes to cycle.
use Rattle.std.proofs.Common.{◌≡◌, refl, sym, ◌∙◌, ℕ, ◌+◌, ◌-◌, ◌≤◌, min, List, ◌++◌, length, take, drop, arith, length-append, length-take, length-drop}
use native.Mathlib.Decide.{dec_le}
use mathlib.Core.List.{append-nil}
use lib.ListN.{drop_of_length-le}
use lib.Seq.{take_at, drop-append-add, drop-drop}
use Rattle.format.proofs.Lists.{take_append, drop_append}

-- src copied into out from its start on, as much as fits
abbrev pub Filled : List ℕ → List ℕ → List ℕ
Filled out src = take (length out) src ++ drop (length src) out

abbrev pub room_used : List ℕ → List ℕ → ℕ
room_used out src = length (take (length out) src)

pub filled_all : (out src : List ℕ) → length out ≤ length src → Filled out src ≡ take (length out) src
filled_all out src h = rw (drop_of_length-le out {i = length src} h) (append-nil (take (length out) src))

-- m bytes more after the first n, or as many as there is room for
drop_fit : (n m : ℕ) (out : List ℕ) → drop (n + min (length out - n) m) out ≡ drop (n + m) out
drop_fit n m out = elim (dec_le m (length out - n)) [
  | yes p ↦ let k : min (length out - n) m ≡ m = omega arith in rw k
  | no p ↦ let k : min (length out - n) m ≡ length out - n = omega arith in
      rw (k, drop_of_length-le out {i = n + (length out - n)} (omega arith), drop_of_length-le out {i = n + m} (omega arith))
]

-- what comes next is copied to the first place that is free, as `fill` does it
module _ (out src more : List ℕ) where
  abbrev fits : List ℕ
  fits = take (length out - length src) more

  filled_length : length (Filled out src) ≡ length out
  filled_length = length-append (take (length out) src) (drop (length src) out) ∙ omega (arith, length-take (length out) src, length-drop (length src) out)

  left : length out - room_used out src ≡ length out - length src
  left = omega (arith, length-take (length out) src)

  kept : drop (room_used out src + length fits) (Filled out src) ≡ drop (length (src ++ more)) out
  kept =
      drop-append-add (take (length out) src) (drop (length src) out) (length fits)
      ∙ drop-drop (length fits) (length src) out
      ∙ rw (length-take (length out - length src) more, length-append src more) (drop_fit (length src) (length more) out)

  pub filled_more : (now next : List ℕ) (n r : ℕ) → now ≡ Filled out src → n ≡ room_used out src
      → r ≡ n + length (take (length now - n) more) → next ≡ take n now ++ take (length now - n) more ++ drop r now
      → (next ≡ Filled out (src ++ more)) × (r ≡ room_used out (src ++ more))
  filled_more now next n r e used place filled =
      let k : length now - n ≡ length out - length src = rw (e, used, filled_length) left in
      let at : r ≡ room_used out src + length fits = place ∙ rw (k, used) in
      let front : take n now ≡ take (length out) src = rw (e, used) (take_at (take (length out) src) (drop (length src) out) (room_used out src) refl) in
      let rest : drop r now ≡ drop (length (src ++ more)) out = rw (e, at) kept in (
        filled ∙ rw (front, k, rest, take_append (length out) src more),
        at ∙ rw (take_append (length out) src more) (sym (length-append (take (length out) src) fits)),
      )

drop_min : (n : ℕ) (l : List ℕ) → drop (min n (length l)) l ≡ drop n l
drop_min n l = elim (dec_le n (length l)) [
  | yes p ↦ let k : min n (length l) ≡ n = omega arith in rw k
  | no p ↦ let k : min n (length l) ≡ length l = omega arith in rw (k, drop_of_length-le l {i = length l} (omega arith), drop_of_length-le l {i = n} (omega arith))
]

-- one block more: as much as fits into startup, and after that into cycle
module _ (startup cycle src more : List ℕ) where
  pub both_more : (now next : List ℕ) (s r : ℕ) → now ≡ Filled startup src → s ≡ room_used startup src
      → r ≡ s + length (take (length now - s) more) → next ≡ take s now ++ take (length now - s) more ++ drop r now
      → (now2 next2 : List ℕ) (c d : ℕ) → now2 ≡ Filled cycle (drop (length startup) src) → c ≡ room_used cycle (drop (length startup) src)
      → d ≡ c + length (take (length now2 - c) (drop (r - s) more)) → next2 ≡ take c now2 ++ take (length now2 - c) (drop (r - s) more) ++ drop d now2
      → (next ≡ Filled startup (src ++ more)) × (r ≡ room_used startup (src ++ more))
      × (next2 ≡ Filled cycle (drop (length startup) (src ++ more))) × (d ≡ room_used cycle (drop (length startup) (src ++ more)))
  both_more now next s r e used place filled now2 next2 c d e2 used2 place2 filled2 =
      let first = filled_more startup src more now next s r e used place filled in
      let k : length now - s ≡ length startup - length src = rw (e, used, filled_length startup src more) (left startup src more) in
      let n : r - s ≡ min (length startup - length src) (length more) = omega (arith, place, k, length-take (length now - s) more) in
      let skipped : drop (r - s) more ≡ drop (length startup - length src) more = rw n (drop_min (length startup - length src) more) in
      let second = filled_more cycle (drop (length startup) src) (drop (length startup - length src) more) now2 next2 c d e2 used2
      (rw skipped at place2) (rw skipped at filled2) in
      (first.0, first.1, second.0 ∙ rw (drop_append (length startup) src more), second.1 ∙ rw (drop_append (length startup) src more))
