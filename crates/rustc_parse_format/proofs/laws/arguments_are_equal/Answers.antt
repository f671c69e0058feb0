use Rattle.rustc_parse_format.proofs.Derives.Equality.{report}
use Rattle.rustc_parse_format.proofs.Derives.EqualPieces.{argument_same}
use Rattle.rustc_parse_format.proofs.laws.arguments_are_equal.Goals as goal

pub returns : goal.returns
returns c =
    report c.eq.ensures
    (argument_same c.args.a.now c.args.b.now c.know_argument.ensures c.know_argument-2.ensures)
