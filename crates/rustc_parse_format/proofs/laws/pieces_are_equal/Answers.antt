use Rattle.rustc_parse_format.proofs.Derives.Equality.{report}
use Rattle.rustc_parse_format.proofs.Derives.EqualPieces.{piece_same}
use Rattle.rustc_parse_format.proofs.laws.pieces_are_equal.Goals as goal

pub returns : goal.returns
returns c =
    report c.eq.ensures
    (piece_same c.args.a.now c.args.b.now c.know_piece.ensures c.know_piece-2.ensures)
