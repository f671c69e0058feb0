use Rattle.std.proofs.Common.{sym}
use Rattle.rustc_parse_format.proofs.Sources.PlainPlaces.{width_chars}
use Rattle.format_tokens.proofs.parts.width_of.Goals as goal

pub returns : goal.returns
returns c = sym (width_chars _ c.utf8.text)
