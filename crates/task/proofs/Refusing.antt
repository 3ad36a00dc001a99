-- What a list that is not refused is like: each of its numbers is within its limits, and the buffers have room.
use mathlib.Core.Path.{◌≡◌, refl}
use mathlib.Core.List.{List, [], ◌∷◌}
use mathlib.Core.Bool.{Bool, true, false, not, ◌||◌, true≢false}
use Prim.Native.Nat.{ℕ, zero, suc, ◌+◌, ◌≤◌, ◌<◌}
use native.Mathlib.Omega.{arith}
use lib.ListN.{length}
use borrow.Author.Tests.{eqb-false, ltb-false}
use Rattle.card.specs.declared.Card.{Card}
use Rattle.card.specs.Cards.{is_timed}
use Rattle.task.specs.declared.Task.{Task}
use Rattle.task.specs.Limits.{most_tasks, longest_period, latest_offset, longest_hyperperiod}
use Rattle.task.specs.Tasks.{task, latest, hyperperiod}
use Rattle.refusal.specs.declared.Refusal.{Refusal}
use Rattle.refusal.specs.declared.Refusal.TheVariants.{Count, Period, Run, Deadline, Offset, Hyperperiod, Startup, Cycle, Timer}
use Rattle.refusal.specs.Refusals.{Finding, sound, refused, refused_if, ◌then◌}
use Rattle.task.specs.Checks.{is_unfit, task_refusal, tasks_refusal, first_refusal}

pub record Fine (τ : Task) : Type 0 where
  pub live : 0 < τ.period
  pub short : τ.period ≤ longest_period
  pub runs : 0 < τ.run
  pub fits : τ.run ≤ τ.deadline
  pub within : τ.deadline ≤ τ.period
  pub soon : τ.offset ≤ latest_offset

pub not_sound : {n i : ℕ} → refused n i ≡ sound → ⊥
not_sound e = let z : ◌≡◌ {A = ℕ} 0 1 = cc in omega arith

-- a check that finds nothing, and one after the other
past : (b : Bool) (r : Refusal) (i : ℕ) → refused_if b r i ≡ sound → b ≡ false
past true r i e = absurd (not_sound e)
past false r i e = refl

both : (f g : Finding) → (f then g) ≡ sound → (f ≡ sound) × (g ≡ sound)
both sound g e = (refl, e)
both (refused n i) g e = absurd (not_sound e)

pub neither : (a b : Bool) → (a || b) ≡ false → (a ≡ false) × (b ≡ false)
neither true b e = (e, absurd (true≢false e))
neither false b e = (refl, e)

task_fine : (c : Card) (i : ℕ) (τ : Task) → task_refusal c i τ ≡ sound → Fine τ
task_fine c i τ e =
    let c₂ = both (refused_if (is_unfit τ.period) Period i) _ e in
    let c₉ = both (refused_if (not (is_timed c τ.period)) Timer i) _ c₂.1 in
    let c₃ = both _ _ c₉.1 in
    let c₄ = both _ _ c₃.1 in
    let T = neither _ _ (past (is_unfit τ.period) Period i c₂.0) in
    let C = neither _ _ (past _ Run i c₃.0) in
    record {
      live = omega (arith, eqb-false τ.period 0 T.0);
      short = ltb-false _ _ T.1;
      runs = omega (arith, eqb-false τ.run 0 C.0);
      fits = ltb-false _ _ C.1;
      within = ltb-false _ _ (past _ Deadline i c₄.0);
      soon = ltb-false _ _ (past _ Offset i c₄.1);
    }

pub tasks_fine : (c : Card) (i : ℕ) (l : List Task) → tasks_refusal c i l ≡ sound → (j : ℕ) → j < length l → Fine (task l j)
tasks_fine c i [] e j b = absurd (omega arith)
tasks_fine c i (τ ∷ l) e zero b = task_fine c i τ (both (task_refusal c i τ) _ e).0
tasks_fine c i (τ ∷ l) e (suc j) b = tasks_fine c (suc i) l (both (task_refusal c i τ) _ e).1 j (omega arith)

pub record Passed (l : List Task) (startup cycle : ℕ) : Type 0 where
  pub some : 0 < length l
  pub few : length l ≤ most_tasks
  pub fine : (i : ℕ) → i < length l → Fine (task l i)
  pub short : hyperperiod l ≤ longest_hyperperiod
  pub startup_fits : latest l + hyperperiod l ≤ startup
  pub cycle_fits : hyperperiod l ≤ cycle

-- whatever the card
pub passed : (c : Card) (l : List Task) (startup cycle : ℕ) → first_refusal c l startup cycle ≡ sound → Passed l startup cycle
passed c l startup cycle e =
    let c₁ = both _ _ e in
    let c₂ = both _ _ c₁.1 in
    let c₆ = both _ _ c₂.1 in
    let c₇ = both _ _ c₆.1 in
    let n = neither _ _ (past _ Count 0 c₁.0) in
    record {
      some = omega (arith, eqb-false (length l) 0 n.0);
      few = ltb-false _ _ n.1;
      fine = tasks_fine c 0 l c₂.0;
      short = ltb-false _ _ (past _ Hyperperiod 0 c₆.0);
      startup_fits = ltb-false _ _ (past _ Startup 0 c₇.0);
      cycle_fits = ltb-false _ _ (past _ Cycle 0 c₇.1);
    }
