-- `trailer` meets its contract: its kind, three numbers, and zeros.
use Rattle.std.proofs.Common.{rules, ◌∙◌}
use Rattle.packing.proofs.Ending.{trailer_laid}
use Rattle.packing.proofs.lay.trailer.Goals as goal

pub returns : goal.returns
returns c =
    let x = c.args in
    trailer_laid x.out.now x.count x.startup x.cycle c.requires _ _ _ (c.copy_from_slice.ensures.after ∙ c.number.ensures)
    (c.copy_from_slice-2.ensures.after ∙ c.number-2.ensures) (c.copy_from_slice-3.ensures.after ∙ c.number-3.ensures) _ (c.fill.ensures.after (λ y k. search rules))
