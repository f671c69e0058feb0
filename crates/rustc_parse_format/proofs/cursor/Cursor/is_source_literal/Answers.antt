use Rattle.rustc_parse_format.proofs.Sources.Places.{source_literal}
use Rattle.rustc_parse_format.proofs.cursor.Cursor.is_source_literal.Goals as goal

pub returns : goal.returns
returns c = rw (← c.self.view_is) (source_literal c.self.inside.source)
