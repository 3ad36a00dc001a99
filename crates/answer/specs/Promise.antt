-- What may be answered, and what may then stand in the two buffers. Document 01, "What comes back".
use Rattle.std.specs.Prelude.{◌≡◌, List, ℕ, ◌+◌, ◌-◌, ◌≤◌, ◌<◌, min, length}
use Rattle.card.specs.declared.Card.{Card}
use Rattle.task.specs.declared.Task.{Task}
use Rattle.task.specs.Tasks.{latest, hyperperiod, load}
use Rattle.schedule.specs.declared.Policy.{Policy}
use Rattle.schedule.specs.declared.Policy.TheVariants.{Edf}
use Rattle.schedule.specs.Job.{Miss, FirstMiss, NobodyMeets, NobodyMeetsUpTo}
use Rattle.schedule.specs.Endless.{endless}
use Rattle.answer.specs.declared.Plan.{Plan}
use Rattle.answer.specs.declared.Answer.{Answer}
use Rattle.answer.specs.Answers.{Row, refused, overloaded, missed, feasible, row}
use Rattle.refusal.specs.Refusals.{sound, refused as refused_by}
use Rattle.task.specs.Checks.{first_refusal}
use Rattle.answer.specs.Tables.{filled, plan_of}

-- `startup` and `cycle` are the buffers as they were lent, s and c as they are left
pub record Unchanged (startup cycle s c : List ℕ) : Type 0 where
  pub startup_kept : s ≡ startup
  pub cycle_kept : c ≡ cycle

module _ (p : Policy) (l : List Task) (startup cycle : List ℕ) where
  -- the first n slots in startup, and the first m from M + H on in cycle
  pub record Written (n m : ℕ) (s c : List ℕ) : Type 0 where
    pub startup_filled : s ≡ filled (endless p l) 0 n startup
    pub cycle_filled : c ≡ filled (endless p l) (latest l + hyperperiod l) m cycle

module _ (card : Card) (p : Policy) (l : List Task) (startup cycle : List ℕ) where
  pub record IsRefused (number i : ℕ) (s c : List ℕ) : Type 0 where
    pub is_first_refusal : first_refusal card l (length startup) (length cycle) ≡ refused_by number i
    pub buffers : Unchanged startup cycle s c

  pub record IsOverloaded (a b : ℕ) (s c : List ℕ) : Type 0 where
    pub no_refusal : first_refusal card l (length startup) (length cycle) ≡ sound
    pub over : hyperperiod l < load l (hyperperiod l)
    pub is_load : a ≡ load l (hyperperiod l)
    pub is_hyperperiod : b ≡ hyperperiod l
    pub buffers : Unchanged startup cycle s c

  pub record IsMissed (i d : ℕ) (s c : List ℕ) : Type 0 where
    pub no_refusal : first_refusal card l (length startup) (length cycle) ≡ sound
    pub room : load l (hyperperiod l) ≤ hyperperiod l
    pub first_miss : FirstMiss l (endless p l) i d
    pub buffers : Written p l startup cycle (min d (latest l + hyperperiod l)) (d - (latest l + hyperperiod l)) s c

  pub record IsFeasible (q : Plan) (s c : List ℕ) : Type 0 where
    pub no_refusal : first_refusal card l (length startup) (length cycle) ≡ sound
    pub room : load l (hyperperiod l) ≤ hyperperiod l
    pub no_miss : (i d : ℕ) → Miss l (endless p l) i d → ⊥
    pub is_plan : q ≡ plan_of p l
    pub buffers : Written p l startup cycle (latest l + hyperperiod l) (hyperperiod l) s c

  abbrev pub Permitted : Row → List ℕ → List ℕ → Type 0
  Permitted (refused number i) s c = IsRefused number i s c
  Permitted (overloaded a b) s c = IsOverloaded a b s c
  Permitted (missed i d) s c = IsMissed i d s c
  Permitted (feasible q) s c = IsFeasible q s c

-- a no of earliest deadline first is everybody's no, and so is an overload
abbrev pub EverybodysNo : Policy → List Task → Row → Type 0
EverybodysNo p l (refused number i) = Unit
EverybodysNo p l (overloaded a b) = NobodyMeets l
EverybodysNo p l (missed i d) = p ≡ Edf → NobodyMeetsUpTo l d
EverybodysNo p l (feasible q) = Unit

pub record Promised (card : Card) (p : Policy) (l : List Task) (startup cycle : List ℕ) (a : Answer) (s c : List ℕ) : Type 0 where
  pub demand_2 : Permitted card p l startup cycle (row a) s c
  pub demand_3 : EverybodysNo p l (row a)
