-- `sholakpite_write_card` meets its contract: the writer's answer is for the tasks of the words.
use Rattle.std.proofs.Common.{arith}
use Rattle.std.proofs.lemmas.Grind.{common_steps}
use Rattle.task.proofs.Copied.{held_array}
use Rattle.words.specs.Words.{tasks_of}
use Rattle.sholakpite.proofs.LeftOver.{whole_is}
use Rattle.sholakpite.proofs.texts.sholakpite_write_card.Goals as goal

pub returns-in-Ok : goal.returns-in-Ok
returns-in-Ok c =
    let l = tasks_of c.args.list.now in
    let none = whole_is c.args.list.now c.in-Some-whole.own c.in-Some-whole.ensures in
    let w = c.in-Ok.ensures l (rw none.1 (held_array l)) in
    grind (arith, common_steps)

pub returns-in-Err : goal.returns-in-Err
returns-in-Err c =
    let l = tasks_of c.args.list.now in
    let none = whole_is c.args.list.now c.in-Some-whole.own c.in-Some-whole.ensures in
    let w = c.in-Err.ensures l (rw none.1 (held_array l)) in
    grind (arith, common_steps)
