-- What `check` promises leaves one answer and one content of each buffer, for each array, card, policy and pair of buffers.
use mathlib.Core.Path.{◌≡◌}
use mathlib.Core.List.{List}
use Prim.Native.Nat.{ℕ}
use lib.ListN.{length}
use Rattle.card.specs.declared.Card.{Card}
use Rattle.task.specs.declared.Task.{Task}
use Rattle.task.specs.declared.list.Tasks.{Tasks}
use Rattle.task.specs.Limits.{most_tasks}
use Rattle.task.specs.Arrays.{Holds}
use Rattle.task.proofs.Held.{held}
use Rattle.schedule.specs.declared.Policy.{Policy}
use Rattle.answer.specs.declared.Answer.{Answer}
use Rattle.answer.specs.Promise.{Promised}
use Rattle.answer.proofs.Pinned.{answer_pinned}

-- the array holds a list, and for that list there is one
pub check_pinned : (ts : Tasks) → length ts.items ≡ most_tasks → (card : Card) (p : Policy) (startup cycle : List ℕ) (a a' : Answer) (s c s' c' : List ℕ) →
    ((l : List Task) → Holds ts l → Promised card p l startup cycle a s c) →
    ((l : List Task) → Holds ts l → Promised card p l startup cycle a' s' c') → (a ≡ a') × (s ≡ s') × (c ≡ c')
check_pinned ts full card p startup cycle a a' s c s' c' x y =
    let h = held ts full in answer_pinned card p _ startup cycle a a' s c s' c' (x _ h) (y _ h)
