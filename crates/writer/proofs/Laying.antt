-- The text of a list, task by task, and whether a number of it is too large.
use mathlib.Core.Path.{◌≡◌, refl, sym, ◌∙◌, ap}
use mathlib.Core.List.{List, [], ◌∷◌, ◌++◌, append_assoc, append-nil}
use Prim.Native.Nat.{ℕ, ◌+◌, ◌<◌}
use native.Mathlib.Numerals.{add-one}
use lib.ListN.{length, take}
use lib.Seq.{take-suc}
use Rattle.std.specs.List.{list_any}
use Rattle.task.specs.declared.Task.{Task}
use Rattle.task.specs.Tasks.{nobody, task}
use Rattle.writer.specs.Writing.{task_text, tasks_text, is_large, any_large}

text_more : (l : List Task) (τ : Task) → tasks_text (l ++ τ ∷ []) ≡ tasks_text l ++ task_text τ
text_more [] τ = append-nil (task_text τ)
text_more (σ ∷ l) τ = ap (λ (s : List ℕ). task_text σ ++ s) (text_more l τ) ∙ sym (append_assoc (task_text σ) (tasks_text l) (task_text τ))

pub text_next : (l : List Task) (i : ℕ) → i < length l → tasks_text (take (i + 1) l) ≡ tasks_text (take i l) ++ task_text (task l i)
text_next l i h =
    let e : take (i + 1) l ≡ take i l ++ task l i ∷ [] = rw add-one (take-suc l i nobody h) in
    ap tasks_text e ∙ text_more (take i l) (task l i)

pub any_is : (l : List Task) → list_any is_large l ≡ any_large l
any_is [] = refl
any_is (τ ∷ l) = rw (any_is l)
