use Rattle.std.proofs.Common.{chars}
use Rattle.piece_listing.proofs.Literals.{replicate-last}
use Rattle.piece_listing.proofs.literal.without_last_hashes.Goals as goal

pub returns-in-None : goal.returns-in-None
returns-in-None c = λ t e. c.in-None.ensures.front _
    (replicate-last c.loop.counter c.args.count (chars c.loop.rest.now)
    (chars c.args.text.now) t c.loop-test.true c.loop.invariant.all e)
