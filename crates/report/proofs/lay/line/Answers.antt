-- `line` meets its contract: the name, number after number, and a newline.
use mathlib.Core.Path.{◌≡◌}
use native.Mathlib.Omega.{arith}
use lib.ListN.{take}
use lib.Seq.{take_all}
use borrow.Author.Rules.{rules}
use Rattle.decimal.proofs.Laying.{page_both, page_length}
use Rattle.report.proofs.Lines.{entries_next, numbers_end, spaced_number}
use Rattle.report.proofs.lay.line.Goals as goal

pub loop-n-preserved : goal.loop-n-preserved
loop-n-preserved c =
    let l = c.loop-n in
    let e = entries_next spaced_number c.args.numbers.now l.n-index (search rules) in
    rw e
    (page_both (omega (arith, page_length c.word.ensures)) l.invariant
    (page_both (omega (arith, page_length c.word.ensures, page_length l.invariant)) c.byte.ensures c.number.ensures))

pub returns : goal.returns
returns c =
    let l = c.loop-n in
    let e : take l.n-index c.args.numbers.now ≡ c.args.numbers.now = take_all l.n-index c.args.numbers.now (omega arith) in
    page_both (omega arith) c.word.ensures (rw (e, numbers_end) at (page_both (omega (arith, page_length c.word.ensures)) l.invariant c.byte-2.ensures))
