-- `number_after` meets its contract: the bytes to the next space are the number.
use mathlib.Core.Path.{sym, ◌∙◌}
use Prim.Native.Nat.{◌+◌, ◌-◌}
use native.Mathlib.Omega.{arith}
use lib.ListN.{length, take, drop}
use borrow.Author.Rules.{rules}
use Rattle.std.specs.Prelude.{Some, None}
use Rattle.decimal.specs.Bytes.{space}
use Rattle.line.proofs.Places.{until_taken, until_inside}
use Rattle.line.proofs.Fields.{field_is}
use Rattle.line.proofs.field.number_after.Goals as goal

pub slice_bounds-value_of-end : goal.slice_bounds-value_of-end
slice_bounds-value_of-end c =
    let x = c.args in
    until_taken space c.before-n.result (take (length x.line.now - (x.at + 1)) (drop (x.at + 1) x.line.now)) c.before-n.ensures

pub overflow_add-result : goal.overflow_add-result
overflow_add-result c =
    let x = c.args in
    record { fits = omega (arith, until_inside space c.before-n.result x.line.now (x.at + 1) (omega arith) c.before-n.ensures) }

pub returns-in_err-number : goal.returns-in_err-number
returns-in_err-number c =
    c.from_residual.ensures
    ∙ sym (field_is c.args.line.now c.args.at c.before-n.result None (search rules) c.before-n.ensures c.in_err-number.ensures)

pub returns : goal.returns
returns c =
    sym (field_is c.args.line.now c.args.at c.before-n.result (Some c.in_ok-number.number) (search rules) c.before-n.ensures c.in_ok-number.ensures)
