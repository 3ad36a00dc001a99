-- `answer` meets its contract: a line that can't be read, or the report.
use mathlib.Core.Path.{refl}
use Rattle.decimal.specs.Bytes.{bytes}
use Rattle.report.specs.Report.{one}
use Rattle.text.specs.Reading.{reading}
use Rattle.output.proofs.Told.{told_unread, told_listed}
use Rattle.output.proofs.answer.Goals as goal

pub returns-in-Err : goal.returns-in-Err
returns-in-Err c =
    rw (told_unread (reading c.args.input.now) c.in-Err.unread c.in-Err.ensures)
    (record { output = one (bytes "unread") c.in-Err.unread.line; is_output = refl; wrote = c.write.ensures })

pub returns-in-Ok : goal.returns-in-Ok
returns-in-Ok c =
    let t = told_listed (reading c.args.input.now) c.in-Ok.list c.in-Ok.ensures in
    rw t.1 (c.checked.ensures t.0 t.2)
