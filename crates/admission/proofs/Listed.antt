-- A list, task by task: what each fold of an offset, of a period and of what a task wants adds.
use Rattle.std.proofs.Common.{◌≡◌, ◌∙◌, refl, sym, ap, List, [], ◌∷◌, ℕ, zero, suc, ◌+◌, ◌*◌, ◌/◌, ◌≤◌, ◌<◌, max, length, get_or, take, add-one, Option, Some, None, arith}
use native.Mathlib.Nat.{mul-le-mul_right, mul-div-le}
use lib.Seq.{take_all}
use Rattle.std.specs.List.{fold, sum_by}
use Rattle.std.proofs.lemmas.List.{get_or_default}
use Rattle.std.proofs.lemmas.List.Sums.{sum_by_more}
use Rattle.divisor.specs.Divisors.{lcm, within}
use Rattle.divisor.proofs.Divisors.{within_none, is_some, is_none}
use Rattle.card.specs.declared.Card.TheVariants.{Wide}
use Rattle.task.specs.declared.Task.{Task}
use Rattle.task.specs.Tasks.{nobody, task, latest, hyperperiod, sum, want, load}
use Rattle.refusal.specs.Refusals.{sound}
use Rattle.task.specs.Checks.{tasks_refusal}
use Rattle.task.proofs.Refusing.{Fine, tasks_fine}
use Rattle.task.proofs.Hyperperiods.{hyperperiod_next, hyperperiod_grows}

fold_on : (l : List Task) (m : ℕ) → fold (λ m (τ : Task). max m τ.offset) m l ≡ max m (latest l)
fold_on [] m = omega arith
fold_on (τ ∷ l) m = omega (arith, fold_on l (max m τ.offset))

pub latest_fold : (l : List Task) → fold (λ m (τ : Task). max m τ.offset) 0 l ≡ latest l
latest_fold l = omega (arith, fold_on l 0)

-- what a task wants in H instants
abbrev pub wanted : ℕ → Task → ℕ
wanted H τ = τ.run * (H / τ.period)

-- L is the sum of that over the list
pub load_sum : (l : List Task) (H : ℕ) → sum_by (wanted H) l ≡ load l H
load_sum l H = ap (sum_by (wanted H)) (sym (take_all (length l) l (omega arith))) ∙ first (length l) (omega arith)
  where
    first : (n : ℕ) → n ≤ length l → sum_by (wanted H) (take n l) ≡ sum (want l H) n
    first zero h = refl
    first (suc n) h = rw (← add-one n) (omega (arith, sum_by_more (wanted H) l n nobody (omega arith), first n (omega arith)))

wants_few : (H : ℕ) (τ : Task) → Fine τ → wanted H τ ≤ H
wants_few H τ f =
    let e : τ.run ≤ τ.period = omega (arith, f.fits, f.within) in
    omega (arith, mul-le-mul_right (H / τ.period) e, mul-div-le H τ.period)

module _ (l : List Task) (ok : tasks_refusal Wide 0 l ≡ sound) where
  -- a task that is read off the list has a period, and wants no more than H in H instants
  pub read_few : (H : ℕ) (τ : Task) (i : ℕ) → i < length l → τ ≡ get_or l i τ → (0 < τ.period) × (wanted H τ ≤ H)
  read_few H τ i b e =
      let f : Fine τ = rw (e ∙ get_or_default l i τ nobody b) (tasks_fine Wide 0 l ok i b) in
      (f.live, wants_few H τ f)

  -- so L is no more than H for each task
  pub load_few : (H : ℕ) → load l H ≤ H * length l
  load_few H = first (length l) (omega arith)
    where
      first : (n : ℕ) → n ≤ length l → sum (want l H) n ≤ H * n
      first zero h = omega arith
      first (suc n) h = omega (arith, first n (omega arith), wants_few H (task l n) (tasks_fine Wide 0 l ok n (omega arith)))

  live : (i : ℕ) → i < length l → 0 < (task l i).period
  live i b = (tasks_fine Wide 0 l ok i b).live

  -- The fold of the periods, stopped at a limit: h is what the first i periods give, and k what period i makes of it.
  module _ (most i h : ℕ) (b : i < length l) (so_far : h ≡ hyperperiod (take i l))
      (k : Option ℕ) (is : k ≡ within most (lcm h (task l i).period)) where
    next : lcm h (task l i).period ≡ hyperperiod (take (i + 1) l)
    next = ap (λ x. lcm x (task l i).period) so_far ∙ sym (hyperperiod_next l i b)

    pub goes_on : (m : ℕ) → k ≡ Some m → (m ≤ most) × (m ≡ hyperperiod (take (i + 1) l))
    goes_on m e =
        let o = is_some most (lcm h (task l i).period) m (sym is ∙ e) in
        (omega (arith, o.0, o.1), o.1 ∙ next)

    pub ends_early : k ≡ None → None ≡ within most (hyperperiod l)
    ends_early e = sym (within_none over)
      where
        over : most < hyperperiod l
        over = omega (arith, is_none most (lcm h (task l i).period) (sym is ∙ e), next, hyperperiod_grows l live (i + 1) (omega arith))
