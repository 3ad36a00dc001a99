-- `write` meets its contract: measured first, then laid.
use native.Mathlib.Omega.{arith}
use Rattle.decimal.proofs.Laying.{wrote_whole}
use Rattle.decimal.proofs.write.Goals as goal

pub returns : goal.returns
returns g c =
    wrote_whole c.args.out.now (omega (arith, c.well_formed)) c.laid-n.ensures (omega arith) c.laid.ensures
