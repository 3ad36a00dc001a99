-- H is the least common multiple of the periods: each period divides it, and it divides whatever they all divide.
use mathlib.Core.Path.{◌≡◌, refl, sym, ap, ◌∙◌}
use mathlib.Core.List.{List, [], ◌∷◌, ◌++◌}
use Prim.Native.Nat.{ℕ, zero, suc, ◌+◌, ◌*◌, ◌≤◌, ◌<◌, ◌∣◌}
use native.Mathlib.Nat.{div-mul_cancel, dvd_refl, dvd_trans, dvd_antisymm, one-dvd, le_of_dvd}
use native.Mathlib.Numerals.{add-one}
use native.Mathlib.Omega.{arith}
use lib.ListN.{length, take, drop, length-take, length-drop, take-append-drop}
use lib.Seq.{take-suc, get_or-take, get_or-drop}
use Rattle.task.specs.declared.Task.{Task}
use Rattle.task.specs.Tasks.{nobody, task, IsHyperperiod, hyperperiod_on, hyperperiod, turns}
use Rattle.divisor.specs.Divisors.{lcm}
use Rattle.divisor.proofs.Divisors.{lcm_is, lcm_some}

-- H is the least common multiple of h and the periods of a list
record Least (h : ℕ) (l : List Task) (H : ℕ) : Type 0 where
  some : 0 < H
  start : h ∣ H
  each : (i : ℕ) → i < length l → (task l i).period ∣ H
  least : (m : ℕ) → h ∣ m → ((i : ℕ) → i < length l → (task l i).period ∣ m) → H ∣ m

one_more : (h : ℕ) (τ : Task) (l : List Task) (H : ℕ) → 0 < h → Least (lcm h τ.period) l H → Least h (τ ∷ l) H
one_more h τ l H some rest =
    record { some = rest.some; start = dvd_trans h (lcm_is h T).left rest.start; each = each; least = least }
  where
    T : ℕ
    T = τ.period

    each : (i : ℕ) → i < length (τ ∷ l) → (task (τ ∷ l) i).period ∣ H
    each zero b = dvd_trans T (lcm_is h T).right rest.start
    each (suc i) b = rest.each i (omega arith)

    least : (m : ℕ) → h ∣ m → ((i : ℕ) → i < length (τ ∷ l) → (task (τ ∷ l) i).period ∣ m) → H ∣ m
    least m x all = rest.least m ((lcm_is h T).least m x (all 0 (omega arith))) (λ i b. all (suc i) (omega arith))

folded : (h : ℕ) (l : List Task) → 0 < h → ((i : ℕ) → i < length l → 0 < (task l i).period) → Least h l (hyperperiod_on h l)
folded h [] some live = record { some = some; start = dvd_refl h; each = λ i b. absurd (omega arith); least = λ m x all. x }
folded h (τ ∷ l) some live =
    one_more h τ l (hyperperiod_on h (τ ∷ l)) some
    (folded (lcm h τ.period) l (lcm_some h τ.period some (live 0 (omega arith))) (λ i b. live (suc i) (omega arith)))

-- one task more
hyperperiod_on_append : (h : ℕ) (l m : List Task) → hyperperiod_on h (l ++ m) ≡ hyperperiod_on (hyperperiod_on h l) m
hyperperiod_on_append h [] m = refl
hyperperiod_on_append h (τ ∷ l) m = hyperperiod_on_append (lcm h τ.period) l m

pub hyperperiod_next : (l : List Task) (i : ℕ) → i < length l →
    hyperperiod (take (i + 1) l) ≡ lcm (hyperperiod (take i l)) (task l i).period
hyperperiod_next l i h = rw (add-one, take-suc l i nobody) (hyperperiod_on_append 1 (take i l) (task l i ∷ []))

module _ (l : List Task) (live : (i : ℕ) → i < length l → 0 < (task l i).period) where
  all : Least 1 l (hyperperiod l)
  all = folded 1 l (omega arith) live

  -- H is the least common multiple of all periods
  pub hyperperiod_is : IsHyperperiod l (hyperperiod l)
  hyperperiod_is = record { some = all.some; divided = all.each; least = λ m. all.least m (one-dvd m) }

  pub hyperperiod_whole : (i : ℕ) → i < length l → turns l (hyperperiod l) i * (task l i).period ≡ hyperperiod l
  hyperperiod_whole i b = div-mul_cancel (task l i).period (hyperperiod_is.divided i b)

  -- what the first i tasks alone give is no more, so a fold that is above a limit stays above it
  pub hyperperiod_grows : (i : ℕ) → i ≤ length l → hyperperiod (take i l) ≤ hyperperiod l
  hyperperiod_grows i b = le_of_dvd all.some (rw whole at (folded h (drop i l) first.some later).start)
    where
      h : ℕ
      h = hyperperiod (take i l)

      first : Least 1 (take i l) h
      first = folded 1 (take i l) (omega arith)
          (λ j q. rw (get_or-take i l j nobody (omega (arith, length-take i l))) (live j (omega (arith, length-take i l))))

      later : (j : ℕ) → j < length (drop i l) → 0 < (task (drop i l) j).period
      later j q = rw (get_or-drop i l j nobody) (live (i + j) (omega (arith, length-drop i l)))

      whole : hyperperiod_on h (drop i l) ≡ hyperperiod l
      whole = sym (hyperperiod_on_append 1 (take i l) (drop i l)) ∙ ap (hyperperiod_on 1) (take-append-drop i l)

-- there is one least common multiple
pub hyperperiod_once : {l : List Task} {H G : ℕ} → IsHyperperiod l H → IsHyperperiod l G → H ≡ G
hyperperiod_once {l} {H} {G} x y = dvd_antisymm (x.least G y.divided) (y.least H x.divided)
