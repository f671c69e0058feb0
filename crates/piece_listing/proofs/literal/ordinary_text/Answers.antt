use Rattle.std.proofs.Common.{chars}
use Rattle.piece_listing.proofs.Empty.{empty-no_frame}
use Rattle.piece_listing.proofs.literal.ordinary_text.Goals as goal

pub returns-clause-empty : goal.returns-clause-empty
returns-clause-empty c e =
    absurd (empty-no_frame c.args.literal.now e (chars c.in-Some.content.now) c.in-Some.ensures)
