-- `startup_part` meets its contract: a stretch of the buffer's first entries, and the others as they were.
use native.Mathlib.Omega.{arith}
use lib.Seq.{length-take-le}
use Rattle.std.proofs.lemmas.Result.{MatchResult-weaker}
use Rattle.state.proofs.Verdict.{stretched_part, cut_off_part}
use Rattle.checker.proofs.engine.Engine.startup_part.Goals as goal

pub stretch-requires-clause-room : goal.stretch-requires-clause-room
stretch-requires-clause-room c = omega (arith, c.begin-now.ensures.counts, length-take-le _ _ c.requires.room.1, c.requires.room.0)

pub returns : goal.returns
returns c =
    let room = c.requires.room.1 in
    let at_0 = c.begin-now.ensures.counts.2 in
    MatchResult-weaker c.stretch.result c.stretch.ensures
    (λ r h. (record { below = h.0.below; is = stretched_part _ _ room (rw at_0 at h.0.is) }, omega (arith, h.1, c.begin-now.ensures.counts, length-take-le _ _ room)))
    (λ m h. cut_off_part _ _ room (rw at_0 at h))
