-- What each verdict means: feasible is a schedule that meets every deadline and idles H - L slots of each cycle, a miss falls at M + 2 H
-- or before, and a no of earliest deadline first, or of an overload, is everybody's no (demand 3).
use mathlib.Core.Path.{◌≡◌, ap, ◌∙◌}
use mathlib.Core.List.{List}
use Prim.Native.Nat.{ℕ, ◌+◌, ◌-◌, ◌≤◌}
use native.Mathlib.Decide.{dec_lt}
use native.Mathlib.Omega.{arith}
use lib.ListN.{length}
use Rattle.card.specs.declared.Card.{Card}
use Rattle.task.specs.declared.Task.{Task}
use Rattle.task.specs.Tasks.{latest, hyperperiod, load}
use Rattle.schedule.specs.declared.Policy.{Policy}
use Rattle.schedule.specs.declared.Policy.TheVariants.{Edf}
use Rattle.schedule.specs.Job.{Legal, MeetsAll, Follows, NobodyMeets, NobodyMeetsUpTo}
use Rattle.schedule.specs.Endless.{endless}
use Rattle.schedule.proofs.Schedule.{endless_follows, endless_legal, endless_meets, endless_never, endless_idles}
use Rattle.schedule.proofs.Demand.{overload}
use Rattle.schedule.proofs.Edf.{edf_fatal}
use Rattle.answer.specs.declared.Plan.{Plan}
use Rattle.answer.specs.Answers.{Row, refused, overloaded, missed, feasible}
use Rattle.answer.specs.Promise.{Permitted, EverybodysNo}
use Rattle.task.proofs.Refusing.{Passed, passed}
use Rattle.schedule.proofs.Admitted.{is_sound, offsets, first_due}

module _ (card : Card) (p : Policy) (l : List Task) (startup cycle s c : List ℕ) where
  module _ (q : Plan) (x : Permitted card p l startup cycle (feasible q) s c) where
    ok : Passed l (length startup) (length cycle)
    ok = passed card l (length startup) (length cycle) x.no_refusal

    pub feasible_meets : Follows p l (endless p l) × Legal l (endless p l) × MeetsAll l (endless p l)
    feasible_meets =
        (endless_follows p l (is_sound ok), endless_legal p l (is_sound ok), endless_meets p l (is_sound ok) x.no_miss)

    pub feasible_idle : q.cycle_idle ≡ hyperperiod l - load l (hyperperiod l)
    feasible_idle =
        ap (λ r. r.cycle_idle) x.is_plan
        ∙ endless_idles p l (is_sound ok) (latest l) (offsets ok) x.room (latest l + hyperperiod l) (omega arith)

  -- a miss falls at M + 2 H or before
  pub missed_by : (i d : ℕ) → Permitted card p l startup cycle (missed i d) s c → d ≤ latest l + hyperperiod l + hyperperiod l
  missed_by i d x = elim (dec_lt (latest l + hyperperiod l + hyperperiod l) d) [
    | yes h ↦ absurd (endless_never p l (is_sound ok) (latest l) (offsets ok) x.room
        (λ j e b. x.first_miss.none_sooner j e (omega arith)) i d x.first_miss.miss)
    | no h ↦ omega arith
  ]
    where
      ok : Passed l (length startup) (length cycle)
      ok = passed card l (length startup) (length cycle) x.no_refusal

  overloaded_nobody : (a b : ℕ) → Permitted card p l startup cycle (overloaded a b) s c → NobodyMeets l
  overloaded_nobody a b x =
      let ok : Passed l (length startup) (length cycle) = passed card l (length startup) (length cycle) x.no_refusal in
      overload (is_sound ok) (latest l + hyperperiod l) (first_due ok) x.over

missed_nobody : (card : Card) (p : Policy) (l : List Task) (startup cycle s c : List ℕ) (i d : ℕ) →
    Permitted card p l startup cycle (missed i d) s c → p ≡ Edf → NobodyMeetsUpTo l d
missed_nobody card p l startup cycle s c i d x e =
    edf_fatal (is_sound (passed card l (length startup) (length cycle) x.no_refusal)) i d
    (rw e at x.first_miss.miss)

-- what is permitted is everybody's no
pub everybodys_no : (card : Card) (p : Policy) (l : List Task) (startup cycle s c : List ℕ) (r : Row) →
    Permitted card p l startup cycle r s c → EverybodysNo p l r
everybodys_no card p l startup cycle s c (refused number i) x = tt
everybodys_no card p l startup cycle s c (overloaded a b) x = overloaded_nobody card p l startup cycle s c a b x
everybodys_no card p l startup cycle s c (missed i d) x = missed_nobody card p l startup cycle s c i d x
everybodys_no card p l startup cycle s c (feasible q) x = tt
