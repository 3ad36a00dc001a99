-- What is printed for an input. Requests #101 and #105.
use Rattle.std.specs.Prelude.{◌≡◌, List, ℕ, ◌+◌, ◌-◌, ◌*◌, length, replicate, Option}
use Rattle.card.specs.declared.Card.{Card}
use Rattle.task.specs.declared.Task.{Task}
use Rattle.task.specs.Limits.{most_tasks, latest_offset, longest_hyperperiod}
use Rattle.schedule.specs.declared.Policy.{Policy}
use Rattle.schedule.specs.Job.{idle}
use Rattle.answer.specs.declared.Answer.{Answer}
use Rattle.answer.specs.Answers.{row}
use Rattle.answer.specs.Tables.{byte_of}
use Rattle.answer.specs.Promise.{Promised}
use Rattle.decimal.specs.Bytes.{bytes}
use Rattle.decimal.specs.Laying.{Wrote}
use Rattle.text.specs.Reading.{Reading, unread, listed}
use Rattle.report.specs.Report.{one, two, spaced, report}

-- M is at most the latest offset, and H at most the longest hyperperiod: buffers for every list
abbrev pub longest_startup : ℕ
longest_startup = latest_offset + longest_hyperperiod

abbrev pub longest_cycle : ℕ
longest_cycle = longest_hyperperiod

abbrev pub clear : ℕ → List ℕ
clear n = replicate n (byte_of idle)

-- the report of what the checker promises for a card, a policy and a list
pub record Reported (card : Card) (p : Policy) (l : List Task) (output : List ℕ) : Type 0 where
  pub answer : Answer
  pub startup : List ℕ
  pub cycle : List ℕ
  pub promised : Promised card p l (clear longest_startup) (clear longest_cycle) answer startup cycle
  pub is_report : output ≡ report (row answer) startup cycle

-- a line that can't be read is said by its number
abbrev pub Output : Reading → List ℕ → Type 0
Output (unread n) output = output ≡ one (bytes "unread") n
Output (listed card p l) output = Reported card p l output

-- the output for a reading, into a lent buffer
pub record Printed (reading : Reading) (buffer : List ℕ) (r : Option ℕ) (left : List ℕ) : Type 0 where
  pub output : List ℕ
  pub is_output : Output reading output
  pub wrote : Wrote output buffer r left

-- the longest output that there is: each line at its longest, with the last task in every slot (`output_fits`)
abbrev pub longest_output : ℕ
longest_output =
    length (bytes "feasible\n")
    + length (one (bytes "hyperperiod") longest_hyperperiod)
    + length (one (bytes "load") longest_hyperperiod)
    + length (two (bytes "idle") longest_startup longest_cycle)
    + length (two (bytes "preemptions") longest_startup longest_cycle)
    + (length (bytes "first\n") + length (spaced (most_tasks - 1)) * longest_startup)
    + (length (bytes "again\n") + length (spaced (most_tasks - 1)) * longest_cycle)
