-- What is laid after what was laid, and when it all fits.
use mathlib.Core.Path.{◌≡◌, refl, sym, ◌∙◌, ap}
use mathlib.Core.List.{List, [], ◌∷◌, ◌++◌}
use Prim.Native.Nat.{ℕ, suc, ◌+◌, ◌≤◌, ◌<◌, min}
use native.Mathlib.Omega.{arith}
use native.Mathlib.Decide.{dec_le}
use native.Mathlib.Nat.{add-zero, zero-add, add-suc, suc-add}
use lib.ListN.{length, set, drop, length-append}
use lib.Seq.{sets, sets-eq, set_out, length-sets}
use borrow.Author.Tests.{le-ltb}
use Rattle.std.specs.Prelude.{Some}
use Rattle.task.specs.Limits.{largest}
use Rattle.decimal.specs.declared.Page.{Page}
use Rattle.decimal.specs.Laying.{Laid, OnPage, Wrote}

sets_out : (vs l : List ℕ) (i : ℕ) → length l ≤ i → sets l i vs ≡ l
sets_out [] l i h = refl
sets_out (a ∷ vs) l i h = rw (set_out l i a h) (sets_out vs l (suc i) (omega arith))

sets_append : (xs ys l : List ℕ) (i : ℕ) → sets l i (xs ++ ys) ≡ sets (sets l i xs) (i + length xs) ys
sets_append [] ys l i = ap (λ k. sets l k ys) (sym (add-zero i))
sets_append (a ∷ xs) ys l i =
    sets_append xs ys (set l i a) (suc i) ∙ ap (λ k. sets (sets l i (a ∷ xs)) k ys) (suc-add i (length xs) ∙ sym (add-suc i (length xs)))

-- a place that no buffer has may be cut to `largest`
sets_cut : (l ys : List ℕ) (i : ℕ) → length l ≤ largest → sets l (min i largest) ys ≡ sets l i ys
sets_cut l ys i h = elim (dec_le i largest) [
  | yes p ↦ let e : min i largest ≡ i = omega arith in rw e
  | no p ↦
      let e : min i largest ≡ largest = omega arith in
      rw e (sets_out ys l largest h ∙ sym (sets_out ys l i (omega arith)))
]

-- one text after the other is both
pub laid_both : {at n next : ℕ} {xs ys buffer middle left : List ℕ} → length buffer ≤ largest
    → Laid at xs buffer n middle → Laid n ys middle next left → Laid at (xs ++ ys) buffer next left
laid_both {at} {n} {xs} {ys} {buffer} small a b = record {
  place = simp length-append (omega (arith, a.place, b.place));
  filled =
      b.filled
      ∙ ap (λ (l : List ℕ). sets l n ys) a.filled
      ∙ ap (λ (k : ℕ). sets (sets buffer at xs) k ys) a.place
      ∙ sets_cut (sets buffer at xs) ys (at + length xs) (rw length-sets small)
      ∙ sym (sets_append xs ys buffer at);
}

pub laid_length : {at next : ℕ} {text buffer left : List ℕ} → Laid at text buffer next left → length left ≡ length buffer
laid_length {at} {text} {buffer} h = ap length h.filled ∙ length-sets buffer at text

-- the same of pages
pub page_both : {a b c : Page} {xs ys : List ℕ} → length a.out.now ≤ largest → OnPage a xs b → OnPage b ys c → OnPage a (xs ++ ys) c
page_both small x y = record { same_buffer = y.same_buffer ∙ x.same_buffer; laid = laid_both small x.laid y.laid }

-- the same text, written otherwise
pub page_as : {a b : Page} {text other : List ℕ} → text ≡ other → OnPage a text b → OnPage a other b
page_as e h = rw e at h

pub page_length : {a b : Page} {text : List ℕ} → OnPage a text b → length b.out.now ≡ length a.out.now
page_length h = laid_length h.laid

-- a text that fits, laid from the start
laid_whole : {m : ℕ} {text buffer left : List ℕ} → length buffer ≤ largest → length text ≤ length buffer → Laid 0 text buffer m left
    → (m ≡ length text) × (left ≡ text ++ drop (length text) buffer)
laid_whole {m} {text} {buffer} small h laid =
    (omega (arith, laid.place), laid.filled ∙ sets-eq text buffer 0 (omega arith) ∙ ap (λ (k : ℕ). text ++ drop k buffer) (zero-add (length text)))

-- a text is measured by laying it into no buffer
module _ {n : ℕ} {text none : List ℕ} (buffer : List ℕ) (small : length buffer < largest) (measured : Laid 0 text [] n none) where
  is_room : n ≤ length buffer → length text ≤ length buffer
  is_room h = omega (arith, measured.place)

  pub wrote_whole : {m : ℕ} {left : List ℕ} → n ≤ length buffer → Laid 0 text buffer m left → Wrote text buffer (Some m) left
  wrote_whole h laid =
      let w = laid_whole (omega arith) (is_room h) laid in
      simp (le-ltb (length buffer) (length text) (is_room h)) (record { is_length = ap Some w.0; later_kept = w.1 })
