-- Why a list or a buffer is refused: the paper's numbers, and that the first refusal that applies is given. Document 01, "What comes back", and request #105.
use Rattle.std.specs.Prelude.{Bool, true, false, ℕ, Result, Ok, Err}
use Rattle.refusal.specs.declared.Refusal.{Refusal}
use Rattle.refusal.specs.declared.Refusal.TheVariants.{Count, Period, Run, Deadline, Offset, Hyperperiod, Startup, Cycle, Timer}
use Rattle.refusal.specs.declared.Refused.{Refused}

infixr 40 ◌then◌
-- the paper's number of each refusal
abbrev pub number_of : Refusal → ℕ
number_of Count = 1
number_of Period = 2
number_of Run = 3
number_of Deadline = 4
number_of Offset = 5
number_of Hyperperiod = 6
number_of Startup = 7
number_of Cycle = 8
number_of Timer = 9

-- no refusal, or the paper's number and task
pub data Finding : Type 0 where
  sound : Finding
  refused : ℕ → ℕ → Finding

-- what a check says
abbrev pub finding_of : Result (Unit {0}) Refused → Finding
finding_of (Ok u) = sound
finding_of (Err e) = refused (number_of e.why) e.task

abbrev pub refused_if : Bool → Refusal → ℕ → Finding
refused_if true r i = refused (number_of r) i
refused_if false r i = sound

-- the first that applies is given
abbrev pub ◌then◌ : Finding → Finding → Finding
sound then later = later
refused number i then later = refused number i
