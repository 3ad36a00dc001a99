-- `cycle_part` meets its contract: a stretch of the buffer's first entries, and the others as they were.
use native.Mathlib.Omega.{arith}
use lib.Seq.{length-take-le}
use Rattle.std.proofs.lemmas.Result.{MatchResult-weaker}
use Rattle.state.proofs.Verdict.{stretched_part, cut_off_part}
use Rattle.checker.proofs.engine.Engine.cycle_part.Goals as goal

pub stretch-requires-clause-room : goal.stretch-requires-clause-room
stretch-requires-clause-room c = omega (arith, length-take-le _ _ c.requires.room.1, c.requires.room.0)

pub returns : goal.returns
returns c =
    let room = c.requires.room.1 in
    MatchResult-weaker c.stretch.result c.stretch.ensures
    (λ r h. record { below = h.0.below; is = stretched_part _ _ room h.0.is }) (λ m h. cut_off_part _ _ room h)
