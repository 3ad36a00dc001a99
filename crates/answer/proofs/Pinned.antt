-- The promise leaves one answer and one content of each buffer: any two permitted outcomes are equal.
use mathlib.Core.Path.{◌≡◌, refl, sym, ap, ap₂, ◌∙◌}
use mathlib.Core.List.{List}
use Prim.Native.Nat.{ℕ, ◌+◌, ◌-◌, ◌<◌, min}
use native.Mathlib.Decide.{dec_lt}
use native.Mathlib.Omega.{arith}
use lib.ListN.{length}
use Rattle.card.specs.declared.Card.{Card}
use Rattle.task.specs.declared.Task.{Task}
use Rattle.task.specs.Tasks.{latest, hyperperiod}
use Rattle.schedule.specs.declared.Policy.{Policy}
use Rattle.schedule.specs.Job.{Choice, FirstMiss}
use Rattle.answer.specs.declared.Answer.{Answer}
use Rattle.answer.specs.declared.Answer.TheVariants.{Refused, Overloaded, Missed, Feasible}
use Rattle.refusal.proofs.Pinned.{refusal_of, number_back}
use Rattle.answer.specs.Answers.{row, Row, refused, overloaded, missed, feasible}
use Rattle.refusal.specs.Refusals.{sound, refused as refused_by}
use Rattle.task.specs.Checks.{first_refusal}
use Rattle.answer.specs.Promise.{Unchanged, Written, Permitted, Promised}

-- the paper's row says which answer it was
answer_of : Row → Answer
answer_of (refused number i) = Refused (refusal_of number) i
answer_of (overloaded a b) = Overloaded a b
answer_of (missed i d) = Missed i d
answer_of (feasible q) = Feasible q

row_back : (a : Answer) → answer_of (row a) ≡ a
unfolding answer_of
row_back (Refused r i) = ap (λ x. Refused x i) (number_back r)
row_back (Overloaded a b) = refl
row_back (Missed i d) = refl
row_back (Feasible q) = refl

-- there is one first miss
first_once : {l : List Task} {σ : Choice} {i d j e : ℕ} → FirstMiss l σ i d → FirstMiss l σ j e → (i ≡ j) × (d ≡ e)
first_once {l} {σ} {i} {d} {j} {e} f g = (tasks (dec_lt i j) (dec_lt j i), instants)
  where
    instants : d ≡ e
    instants = go (dec_lt d e) (dec_lt e d)
      where
        go : Dec (d < e) → Dec (e < d) → d ≡ e
        go (yes h) q = absurd (g.none_sooner i d h f.miss)
        go (no h) (yes q) = absurd (f.none_sooner j e q g.miss)
        go (no h) (no q) = omega arith

    tasks : Dec (i < j) → Dec (j < i) → i ≡ j
    tasks (yes h) q = absurd (g.none_lower i h (rw instants at f.miss))
    tasks (no h) (yes q) = absurd (f.none_lower j q (rw (← instants) at g.miss))
    tasks (no h) (no q) = omega arith

module _ (card : Card) (p : Policy) (l : List Task) (startup cycle : List ℕ) where
  kept : {r r' : Row} {s c s' c' : List ℕ} → r ≡ r' → Unchanged startup cycle s c → Unchanged startup cycle s' c' →
      (r ≡ r') × (s ≡ s') × (c ≡ c')
  kept e u v = (e, cc, cc)

  written : {r r' : Row} {n m n' m' : ℕ} {s c s' c' : List ℕ} → r ≡ r' → n ≡ n' → m ≡ m' →
      Written p l startup cycle n m s c → Written p l startup cycle n' m' s' c' → (r ≡ r') × (s ≡ s') × (c ≡ c')
  written e f g u v = (e, cc, cc)

  -- a list is refused, or it is not
  apart : {n i : ℕ} {A : Type 0} →
      first_refusal card l (length startup) (length cycle) ≡ refused_by n i → first_refusal card l (length startup) (length cycle) ≡ sound → A
  apart e f = let z : ◌≡◌ {A = ℕ} 0 1 = cc in absurd (omega arith)

  pub pinned : (r r' : Row) (s c s' c' : List ℕ) → Permitted card p l startup cycle r s c → Permitted card p l startup cycle r' s' c' →
      (r ≡ r') × (s ≡ s') × (c ≡ c')
  pinned (refused n i) (refused m j) s c s' c' x y = kept (cc) x.buffers y.buffers
  pinned (refused n i) (overloaded a b) s c s' c' x y = apart x.is_first_refusal y.no_refusal
  pinned (refused n i) (missed j d) s c s' c' x y = apart x.is_first_refusal y.no_refusal
  pinned (refused n i) (feasible q) s c s' c' x y = apart x.is_first_refusal y.no_refusal
  pinned (overloaded a b) (refused n i) s c s' c' x y = apart y.is_first_refusal x.no_refusal
  pinned (overloaded a b) (overloaded a' b') s c s' c' x y = kept (cc) x.buffers y.buffers
  pinned (overloaded a b) (missed i d) s c s' c' x y = absurd (omega (arith, x.over, y.room))
  pinned (overloaded a b) (feasible q) s c s' c' x y = absurd (omega (arith, x.over, y.room))
  pinned (missed i d) (refused n j) s c s' c' x y = apart y.is_first_refusal x.no_refusal
  pinned (missed i d) (overloaded a b) s c s' c' x y = absurd (omega (arith, x.room, y.over))
  pinned (missed i d) (missed j e) s c s' c' x y =
      let f = first_once x.first_miss y.first_miss in
      let M+H = latest l + hyperperiod l in
      written (ap₂ missed f.0 f.1) (ap (λ t. min t M+H) f.1) (ap (λ t. t - M+H) f.1) x.buffers y.buffers
  pinned (missed i d) (feasible q) s c s' c' x y = absurd (y.no_miss i d x.first_miss.miss)
  pinned (feasible q) (refused n i) s c s' c' x y = apart y.is_first_refusal x.no_refusal
  pinned (feasible q) (overloaded a b) s c s' c' x y = absurd (omega (arith, x.room, y.over))
  pinned (feasible q) (missed i d) s c s' c' x y = absurd (x.no_miss i d y.first_miss.miss)
  pinned (feasible q) (feasible q') s c s' c' x y = written (cc) refl refl x.buffers y.buffers

  -- and so for the answers themselves
  pub answer_pinned : (a a' : Answer) (s c s' c' : List ℕ) →
      Promised card p l startup cycle a s c → Promised card p l startup cycle a' s' c' → (a ≡ a') × (s ≡ s') × (c ≡ c')
  answer_pinned a a' s c s' c' x y =
      let e = pinned (row a) (row a') s c s' c' x.demand_2 y.demand_2 in
      (sym (row_back a) ∙ ap answer_of e.0 ∙ row_back a', e.1, e.2)
