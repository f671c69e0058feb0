use Rattle.rustc_parse_format.proofs.Derives.Equality.{report}
use Rattle.rustc_parse_format.proofs.Derives.EqualParts.{position_same}
use Rattle.rustc_parse_format.proofs.laws.positions_are_equal.Goals as goal

pub returns : goal.returns
returns c =
    report c.eq.ensures
    (position_same c.args.a.now c.args.b.now c.know_position.ensures c.know_position-2.ensures)
