-- `lay` meets its contract: the policy's line, the card's, and task after task.
use mathlib.Core.Path.{◌≡◌}
use mathlib.Core.List.{◌++◌}
use Prim.Native.Nat.{◌≤◌}
use native.Mathlib.Omega.{arith}
use lib.ListN.{length, take}
use lib.Seq.{append_snoc, take_all}
use borrow.Author.Rules.{rules}
use Rattle.task.specs.Limits.{largest}
use Rattle.decimal.proofs.Laying.{page_as, page_both, page_length}
use Rattle.decimal.specs.Bytes.{newline}
use Rattle.line.specs.Kinds.{policy_text}
use Rattle.writer.specs.Writing.{card_line, tasks_text}
use Rattle.writer.proofs.Laying.{text_next}
use Rattle.writer.proofs.lay.InputText.lay.Goals as goal

pub loop-task-preserved : goal.loop-task-preserved
loop-task-preserved c =
    let l = c.loop-task in
    let e = text_next c.args.self.now.tasks.now l.task-index (search rules) in
    rw e (page_both (omega (arith, page_length c.card_line.ensures, page_length c.first.ensures)) l.invariant c.task_line.ensures)

pub returns : goal.returns
returns c =
    let l = c.loop-task in
    let i = c.args.self.now in
    let small : length c.args.page.now.out.now ≤ largest = omega arith in
    let e : take l.task-index i.tasks.now ≡ i.tasks.now = take_all l.task-index i.tasks.now (omega arith) in
    let after = page_both (omega (arith, page_length c.first.ensures, small)) c.card_line.ensures (rw e at l.invariant) in
    page_as (append_snoc (policy_text i.policy) newline (card_line i.card ++ tasks_text i.tasks.now)) (page_both small c.first.ensures after)
