-- The promises leave one answer: any two that are permitted are equal.
use mathlib.Core.Path.{◌≡◌, refl, sym, ap, ◌∙◌}
use mathlib.Core.List.{List, [], ◌∷◌}
use Prim.Native.Nat.{ℕ, ◌-◌}
use lib.ListN.{get_or}
use Rattle.std.specs.Prelude.{Result, Ok, Err}
use Rattle.refusal.specs.declared.Refusal.{Refusal}
use Rattle.refusal.specs.declared.Refusal.TheVariants.{Count, Period, Run, Deadline, Offset, Hyperperiod, Startup, Cycle, Timer}
use Rattle.refusal.specs.declared.Refused.{Refused}
use Rattle.refusal.specs.Refusals.{number_of, Finding, sound, refused, finding_of}

-- a number says which refusal it was
refusals : List Refusal
refusals = Count ∷ Period ∷ Run ∷ Deadline ∷ Offset ∷ Hyperperiod ∷ Startup ∷ Cycle ∷ Timer ∷ []

pub refusal_of : ℕ → Refusal
refusal_of number = get_or refusals (number - 1) Count

pub number_back : (r : Refusal) → refusal_of (number_of r) ≡ r
unfolding refusal_of refusals
number_back Count = refl
number_back Period = refl
number_back Run = refl
number_back Deadline = refl
number_back Offset = refl
number_back Hyperperiod = refl
number_back Startup = refl
number_back Cycle = refl
number_back Timer = refl

pub number_once : (r s : Refusal) → number_of r ≡ number_of s → r ≡ s
number_once r s e = sym (number_back r) ∙ ap refusal_of e ∙ number_back s

-- a check's finding says which answer it was
check_of : Finding → Result (Unit {0}) Refused
check_of sound = Ok tt
check_of (refused number i) = Err (record { why = refusal_of number; task = i })

check_back : (k : Result (Unit {0}) Refused) → check_of (finding_of k) ≡ k
unfolding check_of
check_back (Ok tt) = refl
check_back (Err e) = ap (λ (s : Refusal). Err (record { why = s; task = e.task })) (number_back e.why)

pub finding_once : (k k' : Result (Unit {0}) Refused) → finding_of k ≡ finding_of k' → k ≡ k'
finding_once k k' e = sym (check_back k) ∙ ap check_of e ∙ check_back k'
