use Rattle.rustc_parse_format.proofs.Derives.Equality.{report}
use Rattle.rustc_parse_format.proofs.Derives.EqualPieces.{spec_same}
use Rattle.rustc_parse_format.proofs.laws.specs_are_equal.Goals as goal

pub returns : goal.returns
returns c =
    report c.eq.ensures
    (spec_same c.args.a.now c.args.b.now c.know_spec.ensures c.know_spec-2.ensures)
