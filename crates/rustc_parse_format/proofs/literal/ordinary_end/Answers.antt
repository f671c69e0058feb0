use Rattle.rustc_parse_format.proofs.Sources.Ends.{ordinary-ends}
use Rattle.rustc_parse_format.proofs.literal.ordinary_end.Goals as goal

pub returns-in-Some : goal.returns-in-Some
returns-in-Some c = ordinary-ends _ _ _ c.in-Some.ensures c.spelled_end.result c.spelled_end.ensures
