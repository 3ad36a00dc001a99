-- The printed report of an answer. Request #101.
use Rattle.std.specs.Prelude.{Bool, true, false, List, [], ◌∷◌, ◌++◌, ℕ, ◌+◌, eqb, take}
use Rattle.schedule.specs.Job.{idle}
use Rattle.answer.specs.declared.Plan.{Plan}
use Rattle.answer.specs.Answers.{Row, refused, overloaded, missed, feasible}
use Rattle.answer.specs.Tables.{byte_of}
use Rattle.decimal.specs.Bytes.{bytes, newline, space}
use Rattle.decimal.specs.Decimal.{decimal}

-- lines of a name and numbers
abbrev pub one : List ℕ → ℕ → List ℕ
one name a = name ++ space ∷ decimal a ++ newline ∷ []

abbrev pub two : List ℕ → ℕ → ℕ → List ℕ
two name a b = name ++ space ∷ decimal a ++ space ∷ decimal b ++ newline ∷ []

-- a line of a name and any numbers, one space before each (`line_one`, `line_two`)
abbrev pub numbers_text : List ℕ → List ℕ
numbers_text [] = newline ∷ []
numbers_text (a ∷ numbers) = space ∷ decimal a ++ numbers_text numbers

abbrev pub line : List ℕ → List ℕ → List ℕ
line name numbers = name ++ numbers_text numbers

abbrev pub idle_or : Bool → ℕ → List ℕ
idle_or true b = bytes "-"
idle_or false b = decimal b

-- a table entry: the task number, or - for idle
abbrev pub slot_text : ℕ → List ℕ
slot_text b = idle_or (eqb b (byte_of idle)) b

-- one space before each
abbrev pub spaced : ℕ → List ℕ
spaced b = space ∷ slot_text b

abbrev pub slots_text : List ℕ → List ℕ
slots_text [] = newline ∷ []
slots_text (b ∷ slots) = spaced b ++ slots_text slots

abbrev pub table : List ℕ → List ℕ → List ℕ
table name slots = name ++ slots_text slots

-- the seven lines of a feasible answer
abbrev pub plan_text : Plan → List ℕ → List ℕ → List ℕ
plan_text q startup cycle =
    bytes "feasible\n"
    ++ one (bytes "hyperperiod") q.hyperperiod
    ++ one (bytes "load") q.load
    ++ two (bytes "idle") q.startup_idle q.cycle_idle
    ++ two (bytes "preemptions") q.startup_preemptions q.cycle_preemptions
    ++ table (bytes "first") startup
    ++ table (bytes "again") cycle

-- the report of an answer and the tables that it leaves: M + H entries of startup, and H of cycle
abbrev pub report : Row → List ℕ → List ℕ → List ℕ
report (feasible q) startup cycle = plan_text q (take (q.latest + q.hyperperiod) startup) (take q.hyperperiod cycle)
report (missed i d) startup cycle = two (bytes "missed") i d
report (overloaded a b) startup cycle = two (bytes "overloaded") a b
report (refused number i) startup cycle = two (bytes "refused") number i
