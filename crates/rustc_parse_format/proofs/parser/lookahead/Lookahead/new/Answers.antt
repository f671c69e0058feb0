use Rattle.std.proofs.lemmas.Str.{is_utf8-from_IsUtf8}
use Rattle.rustc_parse_format.proofs.Sources.Places.{left_self}
use Rattle.rustc_parse_format.proofs.parser.lookahead.Lookahead.new.Goals as goal

pub returns-clause-left : goal.returns-clause-left
returns-clause-left c =
    left_self c.args.text.now (is_utf8-from_IsUtf8 c.args.text.now c.utf8.text)
