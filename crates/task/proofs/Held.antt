-- The lists that an array with a count holds: every array holds one, and with one task more it holds that list with the task at its end.
use mathlib.Core.Path.{◌≡◌, refl, sym, ap, ◌∙◌}
use mathlib.Core.List.{List, [], ◌∷◌, ◌++◌, append-nil}
use Prim.Native.Nat.{suc, ◌-◌, ◌≤◌, ◌<◌, min}
use native.Mathlib.Decide.{dec_lt}
use native.Mathlib.Omega.{arith}
use lib.ListN.{length, take, set, replicate, length-append, length-take, length-replicate}
use lib.Seq.{take_all, take_at, take-suc-set, take-append-le, set_out}
use Rattle.task.specs.declared.Task.{Task}
use Rattle.task.specs.declared.list.Tasks.{Tasks}
use Rattle.task.specs.Limits.{largest, most_tasks}
use Rattle.task.specs.Tasks.{nobody}
use Rattle.task.specs.Arrays.{Holds, blank, empty, added}

pub held_none : Holds empty []
unfolding blank
held_none = record { counted = refl; begins = refl }

module _ (ts : Tasks) (full : length ts.items ≡ most_tasks) where
  abbrev first : List Task
  first = take ts.count ts.items

  -- any tasks past the array's end will do
  abbrev rest : List Task
  rest = replicate (ts.count - most_tasks) nobody

  firsts : length first ≡ min ts.count most_tasks
  firsts = rw (length-take, full)

  pub held : Holds ts (take ts.count ts.items ++ replicate (ts.count - most_tasks) nobody)
  held = record {
    counted = rw (length-append, length-take, length-replicate, full) (omega arith);
    begins = go (dec_lt most_tasks ts.count);
  }
    where
      go : Dec (most_tasks < ts.count) → first ≡ take most_tasks (first ++ rest)
      go (yes h) = sym (take_at first rest most_tasks (omega (arith, firsts)))
      go (no h) =
          let e : ts.count - most_tasks ≡ 0 = omega arith in
          let s : length (first ++ rest) ≤ most_tasks = rw (length-append, length-replicate) (omega (arith, firsts)) in
          sym (take_all most_tasks (first ++ rest) s ∙ rw e (append-nil first))

  module _ {l : List Task} (h : Holds ts l) (τ : Task) where
    -- a place in the array is left
    with_room : ts.count < most_tasks → take (suc ts.count) (set ts.items ts.count τ) ≡ take most_tasks (l ++ (τ ∷ []))
    with_room q =
        let s : length (l ++ (τ ∷ [])) ≤ most_tasks = rw length-append (omega (arith, h.counted)) in
        take-suc-set ts.items ts.count τ (omega arith)
        ∙ ap (λ x. x ++ (τ ∷ [])) (h.begins ∙ take_all most_tasks l (omega (arith, h.counted)))
        ∙ sym (take_all most_tasks (l ++ (τ ∷ [])) s)

    with_none : most_tasks ≤ ts.count → take (suc ts.count) (set ts.items ts.count τ) ≡ take most_tasks (l ++ (τ ∷ []))
    with_none q =
        ap (take (suc ts.count)) (set_out ts.items ts.count τ (omega arith))
        ∙ take_all (suc ts.count) ts.items (omega arith)
        ∙ sym (take_all ts.count ts.items (omega arith))
        ∙ h.begins
        ∙ sym (take-append-le most_tasks l (τ ∷ []) (omega (arith, h.counted)))

    pub held_with : length l < largest → Holds (added ts τ) (l ++ (τ ∷ []))
    held_with b =
        let n : min (suc ts.count) largest ≡ suc ts.count = omega (arith, h.counted) in
        record {
          counted = rw length-append (omega (arith, h.counted));
          begins = rw n (elim (dec_lt ts.count most_tasks) [ yes q ↦ with_room q | no q ↦ with_none (omega arith) ]);
        }
