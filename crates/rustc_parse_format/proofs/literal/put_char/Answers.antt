use Rattle.std.proofs.Common.{string_bytes, chars, ap, ◌∙◌}
use Rattle.std.proofs.lemmas.Str.{IsUtf8-string_bytes}
use Rattle.rustc_parse_format.proofs.Literals.Texts.{chars-push}
use Rattle.rustc_parse_format.proofs.literal.put_char.Goals as goal

pub returns : goal.returns
returns c = ap chars c.in_ok-push.ensures.bytes ∙ chars-push (string_bytes c.args.text.now) c.args.c
    (IsUtf8-string_bytes c.args.text.now) c.ranges.c.0
