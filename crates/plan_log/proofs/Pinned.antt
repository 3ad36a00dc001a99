-- Any two permitted outcomes are equal.
use mathlib.Core.Path.{◌≡◌}
use mathlib.Core.List.{List}
use Prim.Native.Nat.{ℕ}
use Rattle.format.specs.Newest.{newest}
use Rattle.std.specs.Prelude.{Result}
use Rattle.packing.specs.declared.NoRoom.{NoRoom}
use Rattle.packing.proofs.Pinned.{packed_pinned}
use Rattle.unpacking.specs.declared.Lengths.{Lengths}
use Rattle.unpacking.specs.declared.NoPlan.{NoPlan}
use Rattle.unpacking.proofs.Pinned.{read_off_pinned}
use Rattle.plan_log.specs.Log.{start, AppendedAs, ReadAs}

pub append_pinned : (log : List ℕ) (used : ℕ) (startup cycle : List ℕ) (r r' : Result ℕ NoRoom) (left left' : List ℕ)
    → AppendedAs log used startup cycle r left → AppendedAs log used startup cycle r' left' → (r ≡ r') × (left ≡ left')
append_pinned log used = packed_pinned log (start log used)

pub read_pinned : (log startup cycle : List ℕ) (r r' : Result Lengths NoPlan) (s s' c c' : List ℕ)
    → ReadAs log startup cycle r s c → ReadAs log startup cycle r' s' c' → (r ≡ r') × (s ≡ s') × (c ≡ c')
read_pinned log startup cycle r r' s s' c c' = read_off_pinned startup cycle r r' s s' c c' (newest log)
