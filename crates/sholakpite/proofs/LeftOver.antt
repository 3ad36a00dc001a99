-- Words of which none is left over.
use mathlib.Core.Path.{◌≡◌, refl}
use mathlib.Core.Bool.{Bool, true, false, cond}
use mathlib.Core.List.{List}
use Prim.Native.Nat.{ℕ}
use native.Mathlib.Omega.{arith}
use Rattle.std.specs.Prelude.{Some, None}
use Rattle.task.specs.declared.list.Tasks.{Tasks}
use Rattle.task.specs.Arrays.{array_of}
use Rattle.words.specs.Words.{tasks_of, ragged}

-- where there is an array, it is that of the words' tasks
pub whole_is : (list : List ℕ) (own : Tasks) → Some own ≡ cond (ragged list) None (Some (array_of (tasks_of list)))
    → (ragged list ≡ false) × (own ≡ array_of (tasks_of list))
whole_is list own = go (ragged list)
  where
    go : (b : Bool) → Some own ≡ cond b None (Some (array_of (tasks_of list))) → (b ≡ false) × (own ≡ array_of (tasks_of list))
    go true e = let never : ◌≡◌ {A = ℕ} 0 1 = cc in absurd (omega arith)
    go false e = (refl, cc)
