-- The promise of `admit` leaves one answer: any two that are permitted are equal.
use mathlib.Core.Path.{◌≡◌, sym, ap, ap₂, ◌∙◌}
use mathlib.Core.List.{List, ◌++◌}
use Prim.Native.Nat.{ℕ, ◌-◌}
use native.Mathlib.Omega.{arith}
use Rattle.std.specs.Prelude.{Result, Ok, Err}
use lib.ListN.{length, take, replicate}
use Rattle.card.specs.declared.Card.{Card}
use Rattle.task.specs.declared.Task.{Task}
use Rattle.task.specs.declared.list.Tasks.{Tasks}
use Rattle.task.specs.Limits.{most_tasks}
use Rattle.task.specs.Tasks.{nobody}
use Rattle.task.specs.Arrays.{Holds}
use Rattle.task.proofs.Held.{held}
use Rattle.refusal.specs.declared.Refusal.{Refusal}
use Rattle.refusal.specs.declared.Refused.{Refused}
use Rattle.refusal.specs.Refusals.{number_of, refused}
use Rattle.refusal.proofs.Pinned.{number_once}
use Rattle.admission.specs.declared.Measures.{Measures}
use Rattle.admission.specs.Admissions.{Admits}

pub admits_once : (c : Card) (l : List Task) (startup cycle : ℕ) (a a' : Result Measures Refused) → Admits c l startup cycle a → Admits c l startup cycle a' → a ≡ a'
admits_once c l startup cycle (Err e) (Err f) x y =
    let n : refused (number_of e.why) e.task ≡ refused (number_of f.why) f.task = sym x ∙ y in
    ap₂ (λ (r : Refusal) (i : ℕ). Err (record { why = r; task = i })) (number_once e.why f.why (cc)) (cc)
admits_once c l startup cycle (Err e) (Ok m) x y =
    let z : ◌≡◌ {A = ℕ} 0 1 = cc (x, y.no_refusal) in absurd (omega arith)
admits_once c l startup cycle (Ok m) (Err e) x y =
    let z : ◌≡◌ {A = ℕ} 0 1 = cc (y, x.no_refusal) in absurd (omega arith)
admits_once c l startup cycle (Ok m) (Ok k) x y = ap Ok (x.measured ∙ sym y.measured)

-- and so for the array that is handed over, since it holds a list
pub admit_pinned : (c : Card) (ts : Tasks) → length ts.items ≡ most_tasks → (startup cycle : ℕ) (a a' : Result Measures Refused) →
    ((l : List Task) → Holds ts l → Admits c l startup cycle a) → ((l : List Task) → Holds ts l → Admits c l startup cycle a') → a ≡ a'
admit_pinned c ts full startup cycle a a' x y =
    let l : List Task = take ts.count ts.items ++ replicate (ts.count - most_tasks) nobody in
    let h = held ts full in admits_once c l startup cycle a a' (x l h) (y l h)
