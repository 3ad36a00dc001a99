-- The promise can be met for every input: a model that looks no further than M + 2 H, and whose every outcome is permitted.
use mathlib.Core.Path.{◌≡◌, refl}
use mathlib.Core.List.{List}
use mathlib.Core.Bool.{Bool, true, false}
use Prim.Native.Nat.{ℕ, suc, ◌+◌, ◌-◌, ◌≤◌, ◌<◌, min}
use native.Mathlib.Omega.{arith}
use lib.Dec.{ltb}
use lib.ListN.{length}
use borrow.Author.Tests.{ltb-true, ltb-false}
use Rattle.card.specs.declared.Card.{Card}
use Rattle.task.specs.declared.Task.{Task}
use Rattle.task.specs.Tasks.{latest, hyperperiod, load}
use Rattle.schedule.specs.declared.Policy.{Policy}
use Rattle.schedule.specs.Job.{Miss, FirstMiss}
use Rattle.schedule.specs.Endless.{endless}
use Rattle.schedule.proofs.Schedule.{endless_never}
use Rattle.answer.specs.Answers.{Row, refused, overloaded, missed, feasible}
use Rattle.refusal.specs.Refusals.{Finding, sound, refused as refused_by}
use Rattle.task.specs.Checks.{first_refusal}
use Rattle.answer.specs.Tables.{filled, plan_of}
use Rattle.answer.specs.Promise.{Permitted}
use Rattle.answer.proofs.Misses.{miss_at, miss_below, miss_soonest, first_miss}
use Rattle.task.proofs.Refusing.{Passed, passed}
use Rattle.schedule.proofs.Admitted.{is_sound, offsets}

pub record Outcome : Type 0 where
  pub said : Row
  pub startup : List ℕ
  pub cycle : List ℕ

module _ (p : Policy) (l : List Task) (startup cycle : List ℕ) where
  -- d is the first instant with a miss, and the test says whether it is past M + 2 H
  abbrev by_miss : ℕ → Bool → Outcome
  by_miss d true = record {
    said = feasible (plan_of p l);
    startup = filled (endless p l) 0 (latest l + hyperperiod l) startup;
    cycle = filled (endless p l) (latest l + hyperperiod l) (hyperperiod l) cycle;
  }
  by_miss d false = record {
    said = missed (miss_at p l d) d;
    startup = filled (endless p l) 0 (min d (latest l + hyperperiod l)) startup;
    cycle = filled (endless p l) (latest l + hyperperiod l) (d - (latest l + hyperperiod l)) cycle;
  }

  abbrev by_search : ℕ → Outcome
  by_search d = by_miss d (ltb (latest l + hyperperiod l + hyperperiod l) d)

  -- by whether the list is overloaded
  abbrev by_load : Bool → Outcome
  by_load true = record { said = overloaded (load l (hyperperiod l)) (hyperperiod l); startup = startup; cycle = cycle }
  by_load false = by_search (miss_below p l (suc (latest l + hyperperiod l + hyperperiod l)))

  -- by the first refusal
  abbrev by_refusal : Finding → Outcome
  by_refusal (refused_by n i) = record { said = refused n i; startup = startup; cycle = cycle }
  by_refusal sound = by_load (ltb (hyperperiod l) (load l (hyperperiod l)))

abbrev pub model : Card → Policy → List Task → List ℕ → List ℕ → Outcome
model card p l startup cycle = by_refusal p l startup cycle (first_refusal card l (length startup) (length cycle))

module _ (card : Card) (p : Policy) (l : List Task) (startup cycle : List ℕ) where
  abbrev Allowed : Outcome → Type 0
  Allowed o = Permitted card p l startup cycle o.said o.startup o.cycle

  module _ (e : first_refusal card l (length startup) (length cycle) ≡ sound) (room : load l (hyperperiod l) ≤ hyperperiod l) where
    ok : Passed l (length startup) (length cycle)
    ok = passed card l (length startup) (length cycle) e

    miss_permitted : (d : ℕ) → ((i t : ℕ) → t < d → Miss l (endless p l) i t → ⊥) →
        (d ≤ latest l + hyperperiod l + hyperperiod l → FirstMiss l (endless p l) (miss_at p l d) d) →
        (b : Bool) → ltb (latest l + hyperperiod l + hyperperiod l) d ≡ b → Allowed (by_miss p l startup cycle d b)
    miss_permitted d none first true f = record {
      no_refusal = e;
      room = room;
      no_miss = endless_never p l (is_sound ok) (latest l) (offsets ok) room
          (λ i t h. none i t (omega (arith, ltb-true (latest l + hyperperiod l + hyperperiod l) d f)));
      is_plan = refl;
      buffers = record { startup_filled = refl; cycle_filled = refl };
    }
    miss_permitted d none first false f = record {
      no_refusal = e;
      room = room;
      first_miss = first (ltb-false (latest l + hyperperiod l + hyperperiod l) d f);
      buffers = record { startup_filled = refl; cycle_filled = refl };
    }

    search_permitted : Allowed (by_search p l startup cycle (miss_below p l (suc (latest l + hyperperiod l + hyperperiod l))))
    search_permitted =
        let n : ℕ = suc (latest l + hyperperiod l + hyperperiod l) in
        miss_permitted (miss_below p l n) (λ i t h. miss_soonest p (is_sound ok) n t i h) (λ h. first_miss p (is_sound ok) n (omega arith))
        (ltb (latest l + hyperperiod l + hyperperiod l) (miss_below p l n)) refl

  load_permitted : first_refusal card l (length startup) (length cycle) ≡ sound → (b : Bool) → ltb (hyperperiod l) (load l (hyperperiod l)) ≡ b →
      Allowed (by_load p l startup cycle b)
  load_permitted e true f = record {
    no_refusal = e;
    over = ltb-true (hyperperiod l) (load l (hyperperiod l)) f;
    is_load = refl;
    is_hyperperiod = refl;
    buffers = record { startup_kept = refl; cycle_kept = refl };
  }
  load_permitted e false f = search_permitted e (ltb-false (hyperperiod l) (load l (hyperperiod l)) f)

  refusal_permitted : (f : Finding) → first_refusal card l (length startup) (length cycle) ≡ f → Allowed (by_refusal p l startup cycle f)
  refusal_permitted (refused_by n i) e = record { is_first_refusal = e; buffers = record { startup_kept = refl; cycle_kept = refl } }
  refusal_permitted sound e = load_permitted e (ltb (hyperperiod l) (load l (hyperperiod l))) refl

  pub model_permitted :
      let o = model card p l startup cycle in Permitted card p l startup cycle o.said o.startup o.cycle
  model_permitted = refusal_permitted (first_refusal card l (length startup) (length cycle)) refl
