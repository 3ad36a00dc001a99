-- A slot looked up: from the tables of a feasible answer, cut to M + H and H entries, it is the slot of the endless schedule.
use mathlib.Core.Path.{◌≡◌, ap, sym, ◌∙◌}
use mathlib.Core.List.{List, [], ◌∷◌}
use mathlib.Core.Logic.{◌↔◌}
use Prim.Native.Nat.{ℕ, ◌+◌, ◌*◌, ◌-◌, ◌/◌, ◌%◌, ◌≤◌, ◌<◌}
use native.Mathlib.Nat.{zero-add, mod-lt, div-add-mod'}
use native.Mathlib.Decide.{dec_lt}
use native.Mathlib.Omega.{arith}
use lib.ListN.{length, take, drop, length-drop}
use borrow.Author.Tests.{lt-ltb, le-ltb}
use Rattle.card.specs.declared.Card.{Card}
use Rattle.task.specs.declared.Task.{Task}
use Rattle.task.specs.Tasks.{latest, hyperperiod}
use Rattle.schedule.specs.declared.Policy.{Policy}
use Rattle.schedule.specs.Endless.{endless, pick_at}
use Rattle.schedule.proofs.Schedule.{endless_slots, endless_laps}
use Rattle.answer.specs.declared.Plan.{Plan}
use Rattle.answer.specs.Answers.{feasible}
use Rattle.answer.specs.Tables.{byte_of, slots, looked}
use Rattle.answer.specs.Promise.{Permitted}
use Rattle.answer.proofs.Tables.{slots_length, slots_at, filled_cut}
use Rattle.task.proofs.Refusing.{Passed, passed}
use Rattle.schedule.proofs.Admitted.{is_sound, offsets}

-- the three cases of a lookup
pub looked_startup : (startup cycle : List ℕ) (t : ℕ) → t < length startup → looked startup cycle t ≡ drop t startup
looked_startup startup cycle t b = rw (lt-ltb t (length startup) b)

pub looked_cycle : (startup cycle : List ℕ) (t : ℕ) → length startup ≤ t → 0 < length cycle →
    looked startup cycle t ≡ drop ((t - length startup) % length cycle) cycle
looked_cycle startup [] t b h = absurd (omega arith)
looked_cycle startup (x ∷ cycle) t b h = rw (le-ltb t (length startup) b)

pub looked_none : (startup cycle : List ℕ) (t : ℕ) → length startup ≤ t → length cycle ≡ 0 → looked startup cycle t ≡ cycle
looked_none startup [] t b h = rw (le-ltb t (length startup) b)
looked_none startup (x ∷ cycle) t b h = absurd (omega arith)

-- the part is empty exactly in the last of them
pub looked_empty : (startup cycle : List ℕ) (t : ℕ) → (length (looked startup cycle t) ≡ 0) ↔ ((length startup ≤ t) × (length cycle ≡ 0))
looked_empty startup cycle t = go (dec_lt t (length startup)) (dec_lt 0 (length cycle))
  where
    go : Dec (t < length startup) → Dec (0 < length cycle) →
        (length (looked startup cycle t) ≡ 0) ↔ ((length startup ≤ t) × (length cycle ≡ 0))
    go (yes h) d = rw (looked_startup startup cycle t h, length-drop t startup) (λ e. absurd (omega arith), λ e. absurd (omega arith))
    go (no h) (yes d) =
        rw (looked_cycle startup cycle t (omega arith) d, length-drop ((t - length startup) % length cycle) cycle)
        (λ e. absurd (omega (arith, mod-lt (t - length startup) d)), λ e. absurd (omega arith))
    go (no h) (no d) = rw (looked_none startup cycle t (omega arith) (omega arith)) (λ e. (omega arith, e), λ e. e.1)

-- two slots that go to one task, or both to none, have one entry
same_byte : (p : Policy) (l : List Task) (t u : ℕ) → pick_at p l t ≡ pick_at p l u → byte_of (endless p l t) ≡ byte_of (endless p l u)
same_byte p l t u e = elim (dec_lt (pick_at p l t) (length l)) [
  | yes h ↦ rw ((endless_slots p l).busy t h, (endless_slots p l).busy u (omega arith)) e
  | no h ↦ rw ((endless_slots p l).rest t (omega arith), (endless_slots p l).rest u (omega arith))
]

module _ (card : Card) (p : Policy) (l : List Task) (startup cycle s c : List ℕ) (q : Plan) (x : Permitted card p l startup cycle (feasible q) s c) where
  ok : Passed l (length startup) (length cycle)
  ok = passed card l (length startup) (length cycle) x.no_refusal

  abbrev start : ℕ
  start = latest l + hyperperiod l

  -- an instant past the startup part, and its entry of the cycle
  again : (t : ℕ) → start ≤ t → byte_of (endless p l (start + (t - start) % hyperperiod l)) ≡ byte_of (endless p l t)
  again t b = same_byte p l _ t (sym (rw e at laps))
    where
      u : ℕ
      u = start + (t - start) % hyperperiod l

      e : u + (t - start) / hyperperiod l * hyperperiod l ≡ t
      e = omega (arith, div-add-mod' (t - start) (hyperperiod l))

      laps : pick_at p l (u + (t - start) / hyperperiod l * hyperperiod l) ≡ pick_at p l u
      laps = endless_laps p l (is_sound ok) (latest l) (offsets ok) x.room u ((t - start) / hyperperiod l) (omega arith)

  first_table : take start s ≡ slots (endless p l) 0 start
  first_table = ap (take start) x.buffers.startup_filled ∙ filled_cut (endless p l) 0 start startup

  again_table : take (hyperperiod l) c ≡ slots (endless p l) start (hyperperiod l)
  again_table = ap (take (hyperperiod l)) x.buffers.cycle_filled ∙ filled_cut (endless p l) start (hyperperiod l) cycle

  -- the part handed back for instant t begins with slot t
  pub looked_slot : (t : ℕ) →
      take 1 (looked (take (latest l + hyperperiod l) s) (take (hyperperiod l) c) t) ≡ byte_of (endless p l t) ∷ []
  looked_slot t = rw (first_table, again_table) (go (dec_lt t start))
    where
      a : List ℕ
      a = slots (endless p l) 0 start

      b : List ℕ
      b = slots (endless p l) start (hyperperiod l)

      n : length a ≡ start
      n = slots_length (endless p l) 0 start

      m : length b ≡ hyperperiod l
      m = slots_length (endless p l) start (hyperperiod l)

      go : Dec (t < start) → take 1 (looked a b t) ≡ byte_of (endless p l t) ∷ []
      go (yes h) = rw (looked_startup a b t (omega (arith, n)), slots_at (endless p l) 0 start t h, zero-add)
      go (no h) =
          let some : 0 < hyperperiod l = (is_sound ok).some in
          rw (
            looked_cycle a b t (omega (arith, n)) (omega (arith, m)),
            n,
            m,
            slots_at (endless p l) start (hyperperiod l) ((t - start) % hyperperiod l) (mod-lt (t - start) some),
            again t (omega arith),
          )
