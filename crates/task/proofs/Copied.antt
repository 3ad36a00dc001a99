-- A list copied to the array task by task: from none to one more, and what the array then holds.
use mathlib.Core.Path.{◌≡◌, refl, sym, ap, ◌∙◌}
use mathlib.Core.List.{List, [], ◌∷◌, ◌++◌, append-nil}
use Prim.Native.Nat.{ℕ, suc, ◌+◌, ◌-◌, ◌<◌, min}
use native.Mathlib.Numerals.{add-one}
use native.Mathlib.Decide.{dec_lt}
use native.Mathlib.Omega.{arith}
use lib.ListN.{length, take, set, replicate, length-append, length-take}
use lib.Seq.{set_at, set_out, length-take-le, append_snoc, take-suc, take_at, take_all, take-length, take-append-le}
use Rattle.task.specs.declared.Task.{Task}
use Rattle.task.specs.Limits.{largest, most_tasks}
use Rattle.task.specs.Tasks.{nobody, task}
use Rattle.task.specs.Arrays.{Holds, blank, empty, stored, added, copied, fitting, array_of}

pub copied_none : (l : List Task) → blank (length l) ≡ copied l 0
unfolding blank copied
copied_none l = refl

pub copied_more : (l : List Task) (i : ℕ) → i < fitting (length l) → stored (copied l i) i (task l i) ≡ copied l (i + 1)
unfolding stored copied
copied_more l i b =
    ap (λ (xs : List Task). record { items = xs; count = length l })
    (ap (λ (m : ℕ). set (take i l ++ replicate m nobody) i (task l i)) more
    ∙ set_at (take i l) nobody (replicate (most_tasks - (i + 1)) nobody) (task l i) i (length-take-le i l (omega arith))
    ∙ sym (append_snoc (take i l) (task l i) (replicate (most_tasks - (i + 1)) nobody))
    ∙ ap (λ (xs : List Task). xs ++ replicate (most_tasks - (i + 1)) nobody) (sym (take-suc l i nobody (omega arith)) ∙ ap (λ (m : ℕ). take m l) (sym (add-one i))))
  where
    more : most_tasks - i ≡ suc (most_tasks - (i + 1))
    more = omega arith

pub held_array : (l : List Task) → Holds (array_of l) l
unfolding copied
held_array l = record { counted = refl; begins = go (dec_lt most_tasks (length l)) }
  where
    go : Dec (most_tasks < length l) → take (length l) (array_of l).items ≡ take most_tasks l
    go (yes h) =
        let e : fitting (length l) ≡ most_tasks = omega arith in
        ap (λ (k : ℕ). take (length l) (take k l ++ replicate (most_tasks - k) nobody)) e
        ∙ ap (take (length l)) (append-nil (take most_tasks l))
        ∙ take_all (length l) (take most_tasks l) (omega (arith, length-take most_tasks l))
    go (no h) =
        let e : fitting (length l) ≡ length l = omega arith in
        ap (λ (k : ℕ). take (length l) (take k l ++ replicate (most_tasks - k) nobody)) e
        ∙ take_at (take (length l) l) (replicate (most_tasks - length l) nobody) (length l) (length-take-le (length l) l (omega arith))
        ∙ take_all (length l) l (omega arith)
        ∙ sym (take_all most_tasks l (omega arith))

-- the array of a list, and that of the list with one task more
module _ (l : List Task) (τ : Task) where
  with_items : Dec (length l < most_tasks) → set (array_of l).items (length l) τ ≡ (array_of (l ++ τ ∷ [])).items
  unfolding copied
  with_items (yes h) =
      let n : fitting (length l) ≡ length l = omega arith in
      let m : fitting (length (l ++ τ ∷ [])) ≡ length (l ++ τ ∷ []) = omega (arith, length-append l (τ ∷ [])) in
      let k : most_tasks - length l ≡ suc (most_tasks - length (l ++ τ ∷ [])) = omega (arith, length-append l (τ ∷ [])) in
      rw
      (n, m, take-length, take-length, k)
      (set_at l nobody (replicate (most_tasks - length (l ++ τ ∷ [])) nobody) τ (length l) refl
      ∙ sym (append_snoc l τ (replicate (most_tasks - length (l ++ τ ∷ [])) nobody)))
  with_items (no h) =
      let n : fitting (length l) ≡ most_tasks = omega arith in
      let m : fitting (length (l ++ τ ∷ [])) ≡ most_tasks = omega (arith, length-append l (τ ∷ [])) in
      rw
      (n, m)
      (ap (λ (xs : List Task). set xs (length l) τ) (append-nil (take most_tasks l))
      ∙ set_out (take most_tasks l) (length l) τ (omega (arith, length-take most_tasks l))
      ∙ sym (append-nil (take most_tasks (l ++ τ ∷ [])) ∙ take-append-le most_tasks l (τ ∷ []) (omega arith)))

  pub array_with : length l < largest → added (array_of l) τ ≡ array_of (l ++ τ ∷ [])
  unfolding copied
  array_with h =
      let e : min (suc (length l)) largest ≡ length (l ++ τ ∷ []) = omega (arith, length-append l (τ ∷ [])) in
      ap (λ (xs : List Task). record { items = xs; count = min (suc (length l)) largest }) (with_items (dec_lt (length l) most_tasks))
      ∙ ap (λ (n : ℕ). record { items = (array_of (l ++ τ ∷ [])).items; count = n }) e

pub array_none : empty ≡ array_of []
unfolding blank copied
array_none = refl
