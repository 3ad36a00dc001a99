-- The card decides refusal 9 and nothing else: a list is refused 9, or what is found of it for its card is what is found for a wide one.
use mathlib.Core.Path.{◌≡◌, refl}
use mathlib.Core.List.{List, [], ◌∷◌}
use mathlib.Core.Logic.{◌⊎◌, inl, inr}
use mathlib.Core.Bool.{Bool, true, false, not, ◌||◌}
use Prim.Native.Nat.{ℕ, suc}
use lib.Dec.{eqb, ltb}
use lib.ListN.{length}
use Rattle.card.specs.declared.Card.{Card}
use Rattle.card.specs.declared.Card.TheVariants.{Wide}
use Rattle.card.specs.Cards.{is_timed}
use Rattle.refusal.specs.declared.Refusal.TheVariants.{Count, Period, Run, Deadline, Offset, Timer}
use Rattle.refusal.specs.Refusals.{number_of, Finding, sound, refused, refused_if, ◌then◌}
use Rattle.task.specs.declared.Task.{Task}
use Rattle.task.specs.Limits.{most_tasks, latest_offset}
use Rattle.task.specs.Checks.{is_unfit, task_refusal, tasks_refusal, first_refusal}
use Rattle.task.proofs.Refusing.{not_sound}

-- on a wide card 9 is never given: document 01's refusals 2 to 5, in its order
pub wide_task : (i : ℕ) (τ : Task) →
    task_refusal Wide i τ
    ≡ (refused_if (is_unfit τ.period) Period i
    then refused_if (eqb τ.run 0 || ltb τ.deadline τ.run) Run i
    then refused_if (ltb τ.period τ.deadline) Deadline i
    then refused_if (ltb latest_offset τ.offset) Offset i)
wide_task i τ = refl

-- refusal 9, or the same
abbrev pub Nine : Finding → Finding → Type 0
Nine f g = ((i : ℕ) × (f ≡ refused (number_of Timer) i)) ⊎ (f ≡ g)

then_nine : (f g f' g' : Finding) → Nine f f' → Nine g g' → Nine (f then g) (f' then g')
then_nine f g f' g' (inl x) y = inl (x.0, rw x.1 refl)
then_nine sound g f' g' (inr e) (inl y) = inl y
then_nine sound g f' g' (inr e) (inr h) = inr (rw (← e) h)
then_nine (refused n i) g f' g' (inr e) y = inr (rw (← e) refl)

timer_nine : (untimed : Bool) (i : ℕ) (g : Finding) → Nine (refused_if untimed Timer i then g) g
timer_nine true i g = inl (i, refl)
timer_nine false i g = inr refl

task_nine : (card : Card) (i : ℕ) (τ : Task) → Nine (task_refusal card i τ) (task_refusal Wide i τ)
task_nine card i τ =
    then_nine (refused_if (is_unfit τ.period) Period i) _ _ _ (inr refl) (timer_nine (not (is_timed card τ.period)) i _)

pub tasks_nine : (card : Card) (i : ℕ) (l : List Task) → Nine (tasks_refusal card i l) (tasks_refusal Wide i l)
tasks_nine card i [] = inr refl
tasks_nine card i (τ ∷ l) =
    then_nine (task_refusal card i τ) (tasks_refusal card (suc i) l) _ _ (task_nine card i τ) (tasks_nine card (suc i) l)

pub nine_or_wide : (card : Card) (l : List Task) (startup cycle : ℕ) → Nine (first_refusal card l startup cycle) (first_refusal Wide l startup cycle)
nine_or_wide card l startup cycle =
    then_nine (refused_if (eqb (length l) 0 || ltb most_tasks (length l)) Count 0) _ _ _ (inr refl)
    (then_nine (tasks_refusal card 0 l) _ (tasks_refusal Wide 0 l) _ (tasks_nine card 0 l) (inr refl))

-- what is not refused at all is not refused 9
pub not_nine : (f g : Finding) → Nine f g → f ≡ sound → f ≡ g
not_nine f g (inl x) e = let z : refused (number_of Timer) x.0 ≡ sound = cc (x.1, e) in absurd (not_sound z)
not_nine f g (inr h) e = h
