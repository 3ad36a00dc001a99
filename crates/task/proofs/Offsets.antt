-- M: no less than any offset, and one of them.
use Rattle.std.proofs.Common.{refl, List, ℕ, ◌≤◌, ◌<◌, length}
use Rattle.std.proofs.lemmas.List.Recursion.{max_bounds, max_least}
use Rattle.task.specs.declared.Task.{Task}
use Rattle.task.specs.Tasks.{nobody, task, latest}

abbrev offset_of : Task → ℕ
offset_of τ = τ.offset

pub latest_most : (l : List Task) (i : ℕ) → i < length l → (task l i).offset ≤ latest l
latest_most l i b = max_bounds latest offset_of refl (λ _ _. refl) l i nobody b

-- no more than what no offset is more than
pub latest_least : (l : List Task) (m : ℕ) → ((i : ℕ) → i < length l → (task l i).offset ≤ m) → latest l ≤ m
latest_least l m h = max_least latest offset_of refl (λ _ _. refl) l nobody m h
