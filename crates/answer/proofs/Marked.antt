-- The marked lists of document 01, "Lists to try", on a wide card, list l as request #103 has it, and some on a small one, for request #105: one table, and
-- one statement for all of its rows.
use mathlib.Core.Path.{◌≡◌, refl, subst}
use mathlib.Core.List.{List, [], ◌∷◌, map, Memᴰ}
use Prim.Native.Nat.{ℕ}
use lib.ListN.{replicate}
use Rattle.card.specs.declared.Card.{Card}
use Rattle.card.specs.declared.Card.TheVariants.{Wide, Small}
use Rattle.task.specs.declared.Task.{Task}
use Rattle.task.specs.Tasks.{task_of}
use Rattle.schedule.specs.declared.Policy.{Policy}
use Rattle.schedule.specs.declared.Policy.TheVariants.{ListOrder, RateMonotonic, DeadlineMonotonic, Edf}
use Rattle.answer.specs.Answers.{Row, refused, overloaded, missed, feasible}
use Rattle.answer.specs.Promise.{Permitted}
use Rattle.answer.proofs.Model.{Outcome, model, model_permitted}

-- a card, a policy and a list, the buffers as they are lent, and what is to come back
pub record Entry : Type 0 where
  pub card : Card
  pub policy : Policy
  pub tasks : List Task
  pub startup : List ℕ
  pub cycle : List ℕ
  pub due_back : Outcome

abbrev pub plan : ℕ → ℕ → ℕ → ℕ → ℕ → ℕ → ℕ → Row
plan M H L idle₁ idle₂ pre₁ pre₂ = feasible (record {
  latest = M;
  hyperperiod = H;
  load = L;
  startup_idle = idle₁;
  cycle_idle = idle₂;
  startup_preemptions = pre₁;
  cycle_preemptions = pre₂;
})

-- n bytes that are neither a task nor idle, to see which are kept
abbrev pub old : ℕ → List ℕ
old n = replicate n 99

-- a row of the table: the buffers have the lengths n and m, and end up as s and c, the rest of them kept
abbrev pub entry_on : Card → Policy → List Task → ℕ → ℕ → Row → List ℕ → List ℕ → Entry
entry_on card p l n m r s c = record {
  card = card;
  policy = p;
  tasks = l;
  startup = old n;
  cycle = old m;
  due_back = record { said = r; startup = s; cycle = c };
}

abbrev pub entry : Policy → List Task → ℕ → ℕ → Row → List ℕ → List ℕ → Entry
entry = entry_on Wide

-- the same under each policy
abbrev pub any : (Policy → Entry) → List Entry → List Entry
any f rest = f ListOrder ∷ f RateMonotonic ∷ f DeadlineMonotonic ∷ f Edf ∷ rest

abbrev pub table : List Entry
table =
    any (λ p. entry p (task_of 0 1 1 1 ∷ []) 2 2 (plan 0 1 1 0 0 0 0) (0 ∷ old 1) (0 ∷ old 1))
    (entry Edf (task_of 0 2 4 4 ∷ task_of 1 1 2 4 ∷ []) 6 5 (plan 1 4 3 1 1 2 1) (0 ∷ 1 ∷ 0 ∷ 255 ∷ 0 ∷ old 1) (1 ∷ 0 ∷ 255 ∷ 0 ∷ old 1)
    ∷ entry Edf (task_of 0 2 4 4 ∷ task_of 3 2 4 4 ∷ []) 7 4 (plan 3 4 4 1 0 0 0) (0 ∷ 0 ∷ 255 ∷ 1 ∷ 1 ∷ 0 ∷ 0 ∷ []) (1 ∷ 1 ∷ 0 ∷ 0 ∷ [])
    ∷ entry Edf (task_of 0 1 1 2 ∷ task_of 0 1 1 2 ∷ []) 2 2 (missed 1 1) (0 ∷ old 1) (old 2)
    ∷ entry Edf (task_of 0 1 1 2 ∷ task_of 1 1 1 2 ∷ []) 3 2 (plan 1 2 2 0 0 0 0) (0 ∷ 1 ∷ 0 ∷ []) (1 ∷ 0 ∷ [])
    ∷ entry Edf (task_of 0 1 1 4 ∷ task_of 0 1 1 4 ∷ task_of 0 1 1 4 ∷ []) 4 4 (missed 1 1) (0 ∷ old 3) (old 4)
    ∷ entry Edf (task_of 0 1 1 4 ∷ task_of 4 1 1 4 ∷ []) 8 4 (missed 1 5) (0 ∷ 255 ∷ 255 ∷ 255 ∷ 0 ∷ old 3) (old 4)
    ∷ any (λ p. entry p (task_of 0 1 1 1 ∷ task_of 0 1 2 2 ∷ []) 2 2 (overloaded 3 2) (old 2) (old 2))
    (entry RateMonotonic (task_of 0 2 5 5 ∷ task_of 0 4 7 7 ∷ []) 35 35 (missed 1 7) (0 ∷ 0 ∷ 1 ∷ 1 ∷ 1 ∷ 0 ∷ 0 ∷ old 28) (old 35)
    ∷ entry ListOrder (task_of 0 4 7 7 ∷ task_of 0 2 5 5 ∷ []) 35 35 (missed 1 5) (0 ∷ 0 ∷ 0 ∷ 0 ∷ 1 ∷ old 30) (old 35)
    ∷ entry RateMonotonic (task_of 0 4 7 7 ∷ task_of 0 2 5 5 ∷ []) 35 35 (missed 0 7) (1 ∷ 1 ∷ 0 ∷ 0 ∷ 0 ∷ 1 ∷ 1 ∷ old 28) (old 35)
    ∷ entry Edf (task_of 1 1 3 4 ∷ task_of 0 2 4 4 ∷ []) 5 4 (plan 1 4 3 1 1 0 0) (1 ∷ 1 ∷ 0 ∷ 255 ∷ 1 ∷ []) (1 ∷ 0 ∷ 255 ∷ 1 ∷ [])
    ∷ entry_on Small Edf (task_of 0 2 4 4 ∷ task_of 1 1 2 4 ∷ []) 6 5 (plan 1 4 3 1 1 2 1) (0 ∷ 1 ∷ 0 ∷ 255 ∷ 0 ∷ old 1) (1 ∷ 0 ∷ 255 ∷ 0 ∷ old 1)
    ∷ entry_on Small RateMonotonic (task_of 0 2 5 5 ∷ task_of 0 4 7 7 ∷ []) 35 35 (refused 9 1) (old 35) (old 35)
    ∷ entry_on Small Edf (task_of 0 1 1 0 ∷ []) 2 2 (refused 2 0) (old 2) (old 2)
    ∷ entry_on Small Edf (task_of 0 1 1 16385 ∷ []) 2 2 (refused 2 0) (old 2) (old 2)
    ∷ entry_on Small Edf (task_of 0 0 9 9 ∷ []) 9 9 (refused 9 0) (old 9) (old 9)
    ∷ entry_on Small Edf (task_of 0 1 1 7 ∷ task_of 0 1 1 0 ∷ []) 2 2 (refused 9 0) (old 2) (old 2)
    ∷ []))

abbrev model_of : Entry → Outcome
model_of e = model e.card e.policy e.tasks e.startup e.cycle

-- the test, which is computed once for the whole table
right : map model_of table ≡ map (λ e. e.due_back) table
right = refl

each : {e : Entry} {es : List Entry} → map model_of es ≡ map (λ x. x.due_back) es → Memᴰ e es → model_of e ≡ e.due_back
each h (Memᴰ.head f) = rw f (cc)
each h (Memᴰ.tail m) = each (cc) m

-- what is to come back is permitted, in each row
pub marked : (e : Entry) → Memᴰ e table →
    Permitted e.card e.policy e.tasks e.startup e.cycle e.due_back.said e.due_back.startup e.due_back.cycle
marked e m =
    subst (λ (o : Outcome). Permitted e.card e.policy e.tasks e.startup e.cycle o.said o.startup o.cycle) (each right m)
    (model_permitted e.card e.policy e.tasks e.startup e.cycle)
