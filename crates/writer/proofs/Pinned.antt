-- The writer's promise leaves one outcome.
use mathlib.Core.Path.{◌≡◌, sym, ◌∙◌}
use mathlib.Core.Bool.{Bool, true, false, ◌||◌}
use mathlib.Core.List.{List}
use Prim.Native.Nat.{ℕ}
use lib.Dec.{ltb}
use lib.ListN.{length}
use Rattle.card.specs.declared.Card.{Card}
use Rattle.task.specs.declared.Task.{Task}
use Rattle.task.specs.declared.list.Tasks.{Tasks}
use Rattle.task.specs.Limits.{most_tasks}
use Rattle.task.specs.Arrays.{Holds}
use Rattle.task.proofs.Held.{held}
use Rattle.schedule.specs.declared.Policy.{Policy}
use Rattle.std.specs.Prelude.{Result}
use Rattle.writer.specs.declared.Unwritable.{Unwritable}
use Rattle.writer.specs.Writing.{text, unwritable, either, SavedAs}

module _ (c : Card) (p : Policy) (l : List Task) (buffer : List ℕ) (r r' : Result ℕ Unwritable) (left left' : List ℕ) where
  either_pinned : (b : Bool) → either c p l buffer r left b → either c p l buffer r' left' b → (r ≡ r') × (left ≡ left')
  either_pinned true x y = (x.is_refused ∙ sym y.is_refused, x.kept ∙ sym y.kept)
  either_pinned false x y = (x.is_length ∙ sym y.is_length, x.later_kept ∙ sym y.later_kept)

  pub saved_pinned : SavedAs c p l buffer r left → SavedAs c p l buffer r' left' → (r ≡ r') × (left ≡ left')
  saved_pinned = either_pinned (unwritable l || ltb (length buffer) (length (text c p l)))

-- the array holds a list, and for that list there is one
pub write_pinned : (ts : Tasks) → length ts.items ≡ most_tasks → (c : Card) (p : Policy) (buffer : List ℕ) (r r' : Result ℕ Unwritable) (left left' : List ℕ) →
    ((l : List Task) → Holds ts l → SavedAs c p l buffer r left) →
    ((l : List Task) → Holds ts l → SavedAs c p l buffer r' left') → (r ≡ r') × (left ≡ left')
write_pinned ts full c p buffer r r' left left' x y = of_list _ (held ts full)
  where
    of_list : (l : List Task) → Holds ts l → (r ≡ r') × (left ≡ left')
    of_list l h = saved_pinned c p l buffer r r' left left' (x l h) (y l h)
