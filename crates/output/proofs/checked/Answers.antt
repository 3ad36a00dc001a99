-- `checked` meets its contract: the report of what the checker promises.
use mathlib.Core.Path.{refl}
use Rattle.answer.specs.Answers.{row}
use Rattle.report.specs.Report.{report}
use Rattle.output.proofs.checked.Goals as goal

pub returns : goal.returns
returns c =
    λ l holds. record {
      output = report (row c.check-said.result) c.check-said.new.startup c.check-said.new.cycle;
      is_output = record { answer = c.check-said.result; startup = c.check-said.new.startup; cycle = c.check-said.new.cycle; promised = c.check-said.ensures l holds; is_report = refl };
      wrote = c.report.ensures;
    }
