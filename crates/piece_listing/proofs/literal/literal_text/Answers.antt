use Rattle.std.proofs.Common.{chars}
use Rattle.piece_listing.proofs.Empty.{empty-not_raw}
use Rattle.piece_listing.proofs.Literals.{no_literal}
use Rattle.piece_listing.proofs.literal.literal_text.Goals as goal

pub returns-in-None-clause-found : goal.returns-in-None-clause-found
returns-in-None-clause-found c =
    let ordinary = rw c.in-None.is at c.in_ok-text.ensures.found in
    no_literal (chars c.args.literal.now) c.in_default.ensures.text ordinary

pub returns-in_err-from_str-clause-empty : goal.returns-in_err-from_str-clause-empty
returns-in_err-from_str-clause-empty c e =
    absurd (empty-not_raw c.args.literal.now e _ _ c.in-Some.ensures.text)
