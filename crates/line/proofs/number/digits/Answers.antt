-- `digits` meets its contract: the value so far, which is no more than the limit, is that of the digits so far.
use mathlib.Core.Path.{sym, ◌∙◌, ap}
use Prim.Native.Nat.{◌+◌, ◌*◌, ◌-◌}
use native.Mathlib.Omega.{arith}
use lib.ListN.{drop, get_or}
use borrow.Author.Rules.{rules}
use Rattle.line.specs.Lines.{within}
use Rattle.line.proofs.Digits.{above_stays, one_digit}
use Rattle.line.proofs.number.digits.Goals as goal

pub returns-then-v-gt-LARGEST_NUMBER : goal.returns-then-v-gt-LARGEST_NUMBER
returns-then-v-gt-LARGEST_NUMBER c =
    let l = c.loop-b in
    let s = c.args.field.now in
    sym
    (ap within (l.invariant.1 ∙ one_digit l.v s l.b-index (search rules) (sym c.is_ascii_digit.ensures.value ∙ c.if-not-is_ascii_digit.false))
    ∙ above_stays (l.v * 10 + (get_or s l.b-index 0 - 48)) (drop (l.b-index + 1) s) (omega arith))
