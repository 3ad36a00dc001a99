-- From an admission to the answer: what each case of it means for every list that the array holds.
use mathlib.Core.Path.{◌≡◌, sym, ◌∙◌}
use mathlib.Core.List.{List}
use Prim.Native.Nat.{ℕ, ◌≤◌}
use native.Mathlib.Omega.{arith}
use lib.ListN.{length, take}
use lib.Seq.{take_all}
use Rattle.refusal.specs.Refusals.{sound}
use Rattle.card.specs.declared.Card.{Card}
use Rattle.card.specs.declared.Card.TheVariants.{Wide}
use Rattle.task.specs.declared.Task.{Task}
use Rattle.task.specs.declared.list.Tasks.{Tasks}
use Rattle.task.specs.Limits.{most_tasks}
use Rattle.task.specs.Arrays.{Holds}
use Rattle.task.specs.Checks.{first_refusal}
use Rattle.task.proofs.Refusing.{passed}
use Rattle.task.proofs.Cards.{nine_or_wide, not_nine}
use Rattle.task.proofs.Held.{held}
use Rattle.admission.specs.declared.Measures.{Measures}
use Rattle.admission.specs.Admissions.{measures_of, IsSound}
use Rattle.schedule.specs.declared.Policy.{Policy}
use Rattle.answer.specs.declared.Answer.{Answer}
use Rattle.answer.specs.Answers.{row}
use Rattle.answer.specs.Promise.{Permitted, Promised}
use Rattle.answer.proofs.Verdicts.{everybodys_no}
use Rattle.answer.proofs.Cards.{as_on}

-- an array holds one list of no more than sixteen tasks: its first ones
first_tasks : (ts : Tasks) (l : List Task) → Holds ts l → length l ≤ most_tasks → take ts.count ts.items ≡ l
first_tasks ts l h few = h.begins ∙ take_all most_tasks l few

module _ {card : Card} (ts : Tasks) (startup cycle : List ℕ) {m : Measures}
    (is_sound : (l : List Task) → Holds ts l → IsSound card l (length startup) (length cycle) m) where
  few : (l : List Task) → Holds ts l → length l ≤ most_tasks
  few l h = (passed card l (length startup) (length cycle) (is_sound l h).no_refusal).few

  -- it is refused for its card as for a wide one: not at all
  as_wide : (l : List Task) → Holds ts l → first_refusal card l (length startup) (length cycle) ≡ first_refusal Wide l (length startup) (length cycle)
  as_wide l h = not_nine _ _ (nine_or_wide card l (length startup) (length cycle)) (is_sound l h).no_refusal

  -- the first tasks themselves are a list that it holds
  pub first_sound : length ts.items ≡ most_tasks →
      (ts.count ≤ most_tasks)
      × (first_refusal Wide (take ts.count ts.items) (length startup) (length cycle) ≡ sound)
      × (m ≡ measures_of (take ts.count ts.items))
  first_sound full =
      let h = held ts full in
      let f = few _ h in
      let g = first_tasks ts _ h f in
      (omega (arith, h.counted), rw g (sym (as_wide _ h) ∙ (is_sound _ h).no_refusal), rw g (is_sound _ h).measured)

  pub promised : (p : Policy) (s c : List ℕ) (r : Answer) → Permitted Wide p (take ts.count ts.items) startup cycle (row r) s c →
      (l : List Task) → Holds ts l → Promised card p l startup cycle r s c
  promised p s c r y l h =
      let w : Permitted Wide p l startup cycle (row r) s c = rw (first_tasks ts l h (few l h)) at y in
      let z = as_on card Wide p l startup cycle s c (as_wide l h) (row r) w in
      record { demand_2 = z; demand_3 = everybodys_no card p l startup cycle s c (row r) z }
