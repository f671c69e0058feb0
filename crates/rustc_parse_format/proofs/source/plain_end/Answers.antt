use Rattle.std.proofs.Common.{◌∙◌, ap, sym, string_bytes, length, arith}
use Rattle.std.proofs.lemmas.Str.{IsUtf8-string_bytes}
use Rattle.rustc_parse_format.proofs.Literals.Widths.{width-chars}
use Rattle.rustc_parse_format.proofs.source.plain_end.Goals as goal

pub returns-in-Some : goal.returns-in-Some
returns-in-Some c = rw c.in-Some.is (ap length c.as_str.ensures.value
    ∙ sym (width-chars (string_bytes c.in-Some.text) (IsUtf8-string_bytes c.in-Some.text)))

pub returns-in-None : goal.returns-in-None
returns-in-None c = rw (
  c.in-None.is,
  width-chars c.args.input.now c.utf8.input,
  c.if-appended_newline.true,
) c.saturating_sub.ensures

pub returns-in-None-2 : goal.returns-in-None-2
returns-in-None-2 c = rw (
  c.in-None-2.is,
  width-chars c.args.input.now c.utf8.input,
  c.if-appended_newline.false,
) (omega arith)
