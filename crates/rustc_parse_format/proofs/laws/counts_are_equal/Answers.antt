use Rattle.rustc_parse_format.proofs.Derives.Equality.{report}
use Rattle.rustc_parse_format.proofs.Derives.EqualParts.{count_same}
use Rattle.rustc_parse_format.proofs.laws.counts_are_equal.Goals as goal

pub returns : goal.returns
returns c =
    report c.eq.ensures
    (count_same c.args.a.now c.args.b.now c.know_count.ensures c.know_count-2.ensures)
