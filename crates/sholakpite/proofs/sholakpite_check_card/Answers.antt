-- `sholakpite_check_card` meets its contract: ragged words are not understood, and others are answered as their tasks are.
use Rattle.task.proofs.Copied.{held_array}
use Rattle.words.specs.Words.{tasks_of}
use Rattle.words.proofs.Calls.{of_words}
use Rattle.sholakpite.proofs.LeftOver.{whole_is}
use Rattle.sholakpite.proofs.sholakpite_check_card.Goals as goal

pub returns : goal.returns
returns c =
    let l = tasks_of c.args.list.now in
    let w = whole_is c.args.list.now c.in-Some.own c.in-Some.ensures in
    of_words c.args.card c.args.policy c.args.list.now c.args.startup.now c.args.cycle.now c.args.row.now c.answered.result _ _ _
    w.0 (c.answered.ensures l (rw w.1 (held_array l)))
