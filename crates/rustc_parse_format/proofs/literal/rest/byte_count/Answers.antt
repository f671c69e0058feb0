use Rattle.std.proofs.Common.{sym}
use Rattle.rustc_parse_format.proofs.Literals.Widths.{width-chars}
use Rattle.rustc_parse_format.proofs.literal.rest.byte_count.Goals as goal

pub returns : goal.returns
returns c = sym (width-chars c.args.text.now c.utf8.text)
