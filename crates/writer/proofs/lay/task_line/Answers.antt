-- `task_line` meets its contract: the word, the four fields and the newline.
use Prim.Native.Nat.{◌≤◌}
use native.Mathlib.Omega.{arith}
use lib.ListN.{length}
use Rattle.task.specs.Limits.{largest}
use Rattle.decimal.proofs.Laying.{page_both}
use Rattle.writer.proofs.lay.task_line.Goals as goal

pub returns : goal.returns
returns c =
    let small : length c.args.page.now.out.now ≤ largest = omega arith in
    page_both small (page_both small (page_both small (page_both small (page_both small
    c.word.ensures c.field.ensures) c.field-2.ensures) c.field-3.ensures) c.field-4.ensures) c.byte.ensures
