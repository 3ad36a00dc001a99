-- What appending and reading answer, and what they leave. Request #104.
use Rattle.std.specs.Prelude.{List, ℕ, length, take, Result}
use Rattle.format.specs.Newest.{kept, newest}
use Rattle.packing.specs.declared.NoRoom.{NoRoom}
use Rattle.packing.specs.Packing.{PackedAt}
use Rattle.unpacking.specs.declared.Lengths.{Lengths}
use Rattle.unpacking.specs.declared.NoPlan.{NoPlan}
use Rattle.unpacking.specs.Unpacking.{ReadOff}

-- where a log is cut back to; its bytes are the first `used` of the buffer, or all where `used` is above the buffer's length
abbrev pub start : List ℕ → ℕ → ℕ
start log used = length (kept (take used log))

-- `log` is the buffer as it was lent, `left` as it is left
abbrev pub AppendedAs : List ℕ → ℕ → List ℕ → List ℕ → Result ℕ NoRoom → List ℕ → Type 0
AppendedAs log used startup cycle r left = PackedAt log (start log used) startup cycle r left

-- `startup` and `cycle` are the buffers as they were lent, s and c as they are left
abbrev pub ReadAs : List ℕ → List ℕ → List ℕ → Result Lengths NoPlan → List ℕ → List ℕ → Type 0
ReadAs log startup cycle r s c = ReadOff startup cycle r s c (newest log)
