-- `lay` meets its contract: the policy's line, the card's, and task after task.
use lib.ListN.{take}
use Rattle.decimal.specs.Laying.{OnPage}
use Rattle.writer.specs.Writing.{tasks_text}
use Rattle.writer.proofs.lay.InputText.lay.Given as goal

abbrev pub invariant-loop-task : goal.invariant-loop-task
invariant-loop-task l = OnPage l.initial.page (tasks_text (take l.task-index l.self.tasks.now)) l.page
