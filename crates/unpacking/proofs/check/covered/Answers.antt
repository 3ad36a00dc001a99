-- `covered` meets its contract: the last two tests, and none. The check finds the others.
use Rattle.std.proofs.Common.{refl, sym, ◌∙◌, arith}
use Rattle.unpacking.proofs.Damaged.{by_pad, by_rest, by_none}
use Rattle.unpacking.proofs.check.covered.Goals as goal

pub returns-then-not-all_zero : goal.returns-then-not-all_zero
returns-then-not-all_zero c =
    let x = c.args in (
      by_pad x.before.now x.trailer.now c.number-count.result c.number-startup.result c.number-cycle.result
          c.number-count.ensures.read c.number-startup.ensures.read c.number-cycle.ensures.read
          (c.if-count-blocks_for.false ∙ c.blocks_for.ensures) c.if-before-count.false (omega arith) (sym c.all_zero.ensures ∙ c.if-not-all_zero.true),
      refl,
    )

pub returns-then-not-all_zero-2 : goal.returns-then-not-all_zero-2
returns-then-not-all_zero-2 c =
    let x = c.args in (
      by_rest x.before.now x.trailer.now c.number-count.result c.number-startup.result c.number-cycle.result
          c.number-count.ensures.read c.number-startup.ensures.read c.number-cycle.ensures.read
          (c.if-count-blocks_for.false ∙ c.blocks_for.ensures) c.if-before-count.false (omega arith) (sym c.all_zero-2.ensures ∙ c.if-not-all_zero-2.true),
      refl,
    )

pub returns : goal.returns
returns c =
    let x = c.args in
    let both = by_none x.before.now x.trailer.now c.number-count.result c.number-startup.result c.number-cycle.result
    c.number-count.ensures.read c.number-startup.ensures.read c.number-cycle.ensures.read
    (c.if-count-blocks_for.false ∙ c.blocks_for.ensures) c.if-before-count.false (omega arith)
    (sym c.all_plan.ensures ∙ c.if-not-all_plan.false) (sym c.all_zero.ensures ∙ c.if-not-all_zero.false) (sym c.all_zero-2.ensures ∙ c.if-not-all_zero-2.false) in
    (both.0, both.1, c.number-startup.ensures.read, c.number-cycle.ensures.read)
