-- The writer's answer: the three cases of a refusal, and the text.
use mathlib.Core.Path.{◌≡◌, refl, sym, ◌∙◌, ap}
use mathlib.Core.Bool.{Bool, true, false}
use mathlib.Core.List.{List, ◌++◌}
use Prim.Native.Nat.{ℕ, ◌≤◌}
use native.Mathlib.Omega.{arith}
use lib.ListN.{length, take, drop}
use lib.Seq.{take_all}
use Rattle.std.proofs.lemmas.List.{drop_all, append-nil}
use lib.Dec.{ltb}
use borrow.Author.Tests.{le-ltb}
use Rattle.card.specs.declared.Card.{Card}
use Rattle.task.specs.declared.Task.{Task}
use Rattle.task.specs.declared.list.Tasks.{Tasks}
use Rattle.task.specs.Limits.{most_tasks}
use Rattle.task.specs.Arrays.{Holds}
use Rattle.schedule.specs.declared.Policy.{Policy}
use Rattle.decimal.specs.Laying.{either_way, Wrote}
use Rattle.std.specs.Prelude.{Option, Result, Err, ok_or}
use Rattle.writer.specs.declared.Unwritable.{Unwritable}
use Rattle.writer.specs.Writing.{text, any_large, either, SavedAs}

-- a length, or Unwritable where there is none
abbrev pub answered : Option ℕ → Result ℕ Unwritable
answered r = ok_or r (record {})

-- what is behind the whole of a buffer is nothing
pub whole_back : (n : ℕ) (old new : List ℕ) → length old ≤ n → new ≡ new ++ drop n old
whole_back n old new h = rw (drop_all n old h) (sym (append-nil new))

module _ (c : Card) (p : Policy) (own : Tasks) (l : List Task) (holds : Holds own l) (buffer : List ℕ) where
  module _ (few : own.count ≤ most_tasks) where
    -- the array has the whole list
    is_list : take own.count own.items ≡ l
    is_list = holds.begins ∙ take_all most_tasks l (omega (arith, holds.counted))

    not_many : length l ≤ most_tasks
    not_many = omega (arith, holds.counted)

    pub saved_large : any_large (take own.count own.items) ≡ true → SavedAs c p l buffer (Err (record {})) buffer
    saved_large e =
        let f : any_large l ≡ true = rw is_list at e in
        simp (le-ltb most_tasks (length l) not_many, f) (record { is_refused = refl; kept = refl })

    by_room : (r : Option ℕ) (left : List ℕ) (b : Bool) → either_way b (text c p l) buffer r left → either c p l buffer (answered r) left b
    by_room r left true w = record { is_refused = ap answered w.is_short; kept = w.kept }
    by_room r left false w = record { is_length = ap answered w.is_length; later_kept = w.later_kept }

    pub saved_wrote : (r : Option ℕ) (lent left' left : List ℕ) → lent ≡ buffer → left' ≡ left → any_large (take own.count own.items) ≡ false → Wrote (text c p (take own.count own.items)) lent r left'
        → SavedAs c p l buffer (answered r) left
    saved_wrote r lent left' left same kept e v =
        let w : Wrote (text c p (take own.count own.items)) buffer r left = rw (same, kept) at v in
        let f : any_large l ≡ false = rw is_list at e in
        simp (le-ltb most_tasks (length l) not_many, f) (by_room r left (ltb (length buffer) (length (text c p l))) (rw is_list at w))
