-- Any two permitted outcomes are equal.
use mathlib.Core.Path.{◌≡◌, refl, sym, ◌∙◌, ap}
use mathlib.Core.Bool.{Bool, true, false, cond, ◌||◌}
use mathlib.Core.List.{List}
use Prim.Native.Nat.{ℕ}
use lib.Dec.{eqb, ltb}
use lib.ListN.{length}
use Rattle.format.specs.Newest.{Newest, none, damaged, plan}
use Rattle.std.specs.Prelude.{Result, Ok, Err}
use Rattle.unpacking.specs.declared.Lengths.{Lengths}
use Rattle.unpacking.specs.declared.NoPlan.{NoPlan}
use Rattle.unpacking.specs.declared.NoPlan.TheVariants.{Nothing, Damaged, Short}
use Rattle.unpacking.specs.Unpacking.{Reply, lengths, number, reply, IsNumber, IsPlan, ReadOff}

-- a reply comes from one answer
abbrev answer : Reply → Result Lengths NoPlan
answer (lengths a b) = Ok (record { startup = a; cycle = b })
answer (number n) = Err (cond (eqb n 20) Nothing (cond (eqb n 21) Damaged Short))

answer_back : (r : Result Lengths NoPlan) → answer (reply r) ≡ r
answer_back (Ok n) = refl
answer_back (Err Nothing) = refl
answer_back (Err Damaged) = refl
answer_back (Err Short) = refl

one_answer : (r r' : Result Lengths NoPlan) → reply r ≡ reply r' → r ≡ r'
one_answer r r' e = sym (answer_back r) ∙ ap answer e ∙ answer_back r'

module _ (startup cycle : List ℕ) (r r' : Result Lengths NoPlan) (s s' c c' : List ℕ) where
  abbrev Same : Type 0
  Same = (r ≡ r') × (s ≡ s') × (c ≡ c')

  same_number : (n : ℕ) → IsNumber startup cycle r s c n → IsNumber startup cycle r' s' c' n → Same
  same_number n x y = (
    one_answer r r' (x.is_number ∙ sym y.is_number),
    x.startup_unchanged ∙ sym y.startup_unchanged,
    x.cycle_unchanged ∙ sym y.cycle_unchanged,
  )

  same_plan : (a b : List ℕ) → IsPlan startup cycle r s c a b → IsPlan startup cycle r' s' c' a b → Same
  same_plan a b x y = (
    one_answer r r' (x.is_lengths ∙ sym y.is_lengths),
    x.startup_left ∙ sym y.startup_left,
    x.cycle_left ∙ sym y.cycle_left,
  )

  same_either : (short : Bool) (a b : List ℕ) → cond short (IsNumber startup cycle r s c 22) (IsPlan startup cycle r s c a b)
      → cond short (IsNumber startup cycle r' s' c' 22) (IsPlan startup cycle r' s' c' a b) → Same
  same_either true a b = same_number 22
  same_either false a b = same_plan a b

  pub read_off_pinned : (n : Newest) → ReadOff startup cycle r s c n → ReadOff startup cycle r' s' c' n → Same
  read_off_pinned none = same_number 20
  read_off_pinned damaged = same_number 21
  read_off_pinned (plan a b) = same_either (ltb (length startup) (length a) || ltb (length cycle) (length b)) a b
