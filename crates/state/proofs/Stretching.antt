-- A stretch of slots, slot by slot: the laws that the engine's loop cites.
use mathlib.Core.Path.{◌≡◌, refl, ap, ◌∙◌}
use mathlib.Core.List.{List}
use Prim.Native.Nat.{ℕ, suc, ◌+◌, ◌-◌, ◌≤◌, ◌<◌}
use native.Mathlib.Nat.{add-zero, suc-add}
use native.Mathlib.Numerals.{add-one}
use native.Mathlib.Omega.{arith}
use lib.ListN.{length, set}
use Rattle.task.specs.declared.Task.{Task}
use Rattle.schedule.specs.declared.Policy.{Policy}
use Rattle.schedule.specs.Job.{is_idle, one_if, count, FirstMiss}
use Rattle.schedule.specs.Endless.{endless}
use Rattle.schedule.proofs.Sums.{count_few}
use Rattle.answer.specs.Tables.{byte_of, filled, preempts}
use Rattle.answer.proofs.Tables.{filled_next}
use Rattle.state.specs.declared.Job.{Job}
use Rattle.state.specs.Engine.{Instant, Stepped, Stretched, CutOff}

-- k slots from t on are given
pub record Given (p : Policy) (l : List Task) (t k : ℕ) (table table' : List ℕ) (idle preemptions : ℕ) (jobs : List Job) (chosen : ℕ) : Type 0 where
  pub instant : Instant p l (t + k) jobs chosen
  pub written : table' ≡ filled (endless p l) t k table
  pub idles : idle ≡ count (λ u. is_idle (endless p l u)) t k
  pub switches : preemptions ≡ count (preempts l (endless p l)) (suc t) k

module _ {p : Policy} {l : List Task} {t : ℕ} where
  pub given_start : {table : List ℕ} {jobs : List Job} {chosen : ℕ} → Instant p l t jobs chosen → Given p l t 0 table table 0 0 jobs chosen
  given_start I = record { instant = rw add-zero I; written = refl; idles = refl; switches = refl }

  module _ {k idle preemptions chosen : ℕ} {table table' : List ℕ} {jobs : List Job} (g : Given p l t k table table' idle preemptions jobs chosen) where
    pub idle_few : idle ≤ k
    idle_few = omega (arith, g.idles, count_few (λ u. is_idle (endless p l u)) t k)

    pub switches_few : preemptions ≤ k
    switches_few = omega (arith, g.switches, count_few (preempts l (endless p l)) (suc t) k)

    pub stretched : Stretched p l t k table table' idle preemptions jobs chosen
    stretched = record { goes_on = g.instant; written = g.written; idles = g.idles; switches = g.switches }

    module _ {entry : ℕ} (room : k < length table) (e : entry ≡ byte_of (endless p l (t + k))) where
      written_next : set table' k entry ≡ filled (endless p l) t (k + 1) table
      written_next = rw add-one (ap (set table' k) e ∙ ap (λ x. set x k (byte_of (endless p l (t + k)))) g.written ∙ filled_next (endless p l) t k table room)

      pub given_next : {jobs' : List Job} {idle' preemptions' chosen' : ℕ} →
          Stepped p l (t + k) idle idle' preemptions preemptions' jobs' chosen' →
          Given p l t (k + 1) table (set table' k entry) idle' preemptions' jobs' chosen'
      given_next s =
          let e : t + (k + 1) ≡ suc (t + k) = omega arith in
          record {
            instant = rw e s.goes_on;
            written = written_next;
            idles = rw add-one (s.idles ∙ ap (λ x. x + one_if (is_idle (endless p l (t + k)))) g.idles);
            switches = rw (add-one, suc-add)
                (s.switches ∙ ap (λ x. x + one_if (preempts l (endless p l) (suc (t + k)))) g.switches);
          }

      pub cut_off : {n missed instant : ℕ} → k < n → instant ≡ t + k + 1 → FirstMiss l (endless p l) missed instant →
          CutOff p l t n table (set table' k entry) missed instant
      cut_off {instant = instant} h e m =
          let d : instant - t ≡ k + 1 = omega arith in
          record { misses = m; later = omega arith; within = omega arith; written = rw d written_next }
