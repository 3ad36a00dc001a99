-- What a list is refused for where the buffers have room for every list: its own numbers or its card, and a task of it.
use mathlib.Core.Path.{◌≡◌, refl, subst}
use mathlib.Core.Bool.{Bool, true, false, not, ◌||◌}
use mathlib.Core.List.{List, [], ◌∷◌}
use Prim.Native.Nat.{ℕ, suc, ◌+◌, ◌≤◌, ◌<◌}
use native.Mathlib.Omega.{arith}
use lib.Dec.{eqb, ltb}
use lib.ListN.{length}
use borrow.Author.Tests.{ltb-true, ltb-false}
use Rattle.refusal.specs.declared.Refusal.{Refusal}
use Rattle.refusal.specs.declared.Refusal.TheVariants.{Count, Period, Run, Deadline, Offset, Hyperperiod, Startup, Cycle, Timer}
use Rattle.refusal.specs.Refusals.{number_of, Finding, sound, refused, refused_if, ◌then◌}
use Rattle.card.specs.declared.Card.{Card}
use Rattle.card.specs.Cards.{is_timed}
use Rattle.task.specs.declared.Task.{Task}
use Rattle.task.specs.Limits.{most_tasks, latest_offset, longest_hyperperiod}
use Rattle.task.specs.Tasks.{latest, hyperperiod}
use Rattle.task.specs.Checks.{is_unfit, task_refusal, tasks_refusal, first_refusal}
use Rattle.task.proofs.Refusing.{neither, tasks_fine}
use Rattle.task.proofs.Offsets.{latest_least}
use Rattle.output.specs.Output.{longest_startup, longest_cycle}

-- the refusal that a number stands for, and not 7 or 8, a short buffer
pub record Limit (n i : ℕ) : Type 0 where
  pub why : Refusal
  pub its_number : number_of why ≡ n
  pub a_digit : n ≤ 9
  pub no_startup : n ≡ 7 → ⊥
  pub no_cycle : n ≡ 8 → ⊥
  pub its_task : i < most_tasks

abbrev OnlyLimits : Finding → Type 0
OnlyLimits sound = Unit {0}
OnlyLimits (refused n i) = Limit n i

limit : (r : Refusal) (i : ℕ) → number_of r ≤ 9 → (number_of r ≡ 7 → ⊥) → (number_of r ≡ 8 → ⊥) → i < most_tasks → Limit (number_of r) i
limit r i h s c q = record { why = r; its_number = refl; a_digit = h; no_startup = s; no_cycle = c; its_task = q }

-- the checks of one task, by their tests
limit_one : (i : ℕ) → i < most_tasks → (period timer run deadline offset : Bool) →
    OnlyLimits (refused_if period Period i then refused_if timer Timer i then refused_if run Run i then refused_if deadline Deadline i then refused_if offset Offset i)
limit_one i h true timer run deadline offset = limit Period i (omega arith) (λ e. omega arith) (λ e. omega arith) h
limit_one i h false true run deadline offset = limit Timer i (omega arith) (λ e. omega arith) (λ e. omega arith) h
limit_one i h false false true deadline offset = limit Run i (omega arith) (λ e. omega arith) (λ e. omega arith) h
limit_one i h false false false true offset = limit Deadline i (omega arith) (λ e. omega arith) (λ e. omega arith) h
limit_one i h false false false false true = limit Offset i (omega arith) (λ e. omega arith) (λ e. omega arith) h
limit_one i h false false false false false = tt

-- the tasks after a task that passed
limit_then : (f g : Finding) → OnlyLimits f → OnlyLimits g → OnlyLimits (f then g)
limit_then sound g x y = y
limit_then (refused n i) g x y = x

limit_tasks : (card : Card) (i : ℕ) (l : List Task) → i + length l ≤ most_tasks → OnlyLimits (tasks_refusal card i l)
limit_tasks card i [] h = tt
limit_tasks card i (τ ∷ l) h =
    limit_then (task_refusal card i τ) (tasks_refusal card (suc i) l)
    (limit_one i (omega arith) (is_unfit τ.period) (not (is_timed card τ.period)) (eqb τ.run 0 || ltb τ.deadline τ.run)
    (ltb τ.period τ.deadline) (ltb latest_offset τ.offset))
    (limit_tasks card (suc i) l (omega arith))

-- the checks of a list, by their tests; no list is refused for a buffer
limit_all : (count hyperperiod startup cycle : Bool) (tasks : Finding) → (count ≡ false → OnlyLimits tasks) →
    (tasks ≡ sound → hyperperiod ≡ false → startup ≡ true → ⊥) → (hyperperiod ≡ false → cycle ≡ true → ⊥) →
    OnlyLimits (refused_if count Count 0 then tasks then refused_if hyperperiod Hyperperiod 0 then refused_if startup Startup 0 then refused_if cycle Cycle 0)
limit_all true h s c tasks ts ns nc = limit Count 0 (omega arith) (λ e. omega arith) (λ e. omega arith) (omega arith)
limit_all false h s c (refused n i) ts ns nc = ts refl
limit_all false true s c sound ts ns nc = limit Hyperperiod 0 (omega arith) (λ e. omega arith) (λ e. omega arith) (omega arith)
limit_all false false true c sound ts ns nc = absurd (ns refl refl refl)
limit_all false false false true sound ts ns nc = absurd (nc refl refl)
limit_all false false false false sound ts ns nc = tt

module _ (card : Card) (l : List Task) (startup cycle : ℕ) (s : longest_startup ≤ startup) (c : longest_cycle ≤ cycle) where
  limit_list : OnlyLimits (first_refusal card l startup cycle)
  limit_list =
      limit_all (eqb (length l) 0 || ltb most_tasks (length l)) (ltb longest_hyperperiod (hyperperiod l))
      (ltb startup (latest l + hyperperiod l)) (ltb cycle (hyperperiod l)) (tasks_refusal card 0 l)
      (λ few. limit_tasks card 0 l (omega (arith, ltb-false most_tasks (length l) (neither (eqb (length l) 0) (ltb most_tasks (length l)) few).1)))
      (λ fine short e. omega (arith, ltb-true startup (latest l + hyperperiod l) e, H short, M fine))
      (λ short e. omega (arith, ltb-true cycle (hyperperiod l) e, H short))
    where
      H : ltb longest_hyperperiod (hyperperiod l) ≡ false → hyperperiod l ≤ longest_hyperperiod
      H e = ltb-false longest_hyperperiod (hyperperiod l) e

      M : tasks_refusal card 0 l ≡ sound → latest l ≤ latest_offset
      M e = latest_least l latest_offset (λ i b. (tasks_fine card 0 l e i b).soon)

  pub refused_limit : (n i : ℕ) → first_refusal card l startup cycle ≡ refused n i → Limit n i
  refused_limit n i e = subst OnlyLimits e limit_list
