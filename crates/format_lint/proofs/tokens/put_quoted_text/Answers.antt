use Rattle.std.proofs.Common.{◌≡◌, ◌∙◌, ap, chars, encode_utf8_all, true}
use Rattle.std.proofs.lemmas.Str.{encodes-chars, scalars-chars}
use Rattle.std.specs.List.{list_all}
use Rattle.drawn_lines.specs.Glyphs.{is_non_ascii_drawn_as_is}
use Rattle.format_lint.proofs.Quoting.{quoted-as-is}
use Rattle.format_lint.proofs.tokens.put_quoted_text.Goals as goal

-- The quoted text is drawn as it is.
pub returns-then-is_plain : goal.returns-then-is_plain
returns-then-is_plain c =
    let as_is : list_all is_non_ascii_drawn_as_is (encode_utf8_all (chars c.args.text.now)) ≡ true =
    ap (list_all is_non_ascii_drawn_as_is) (encodes-chars c.args.text.now c.utf8.text)
    ∙ c.requires c.if-is_plain.true in
    rw (quoted-as-is (chars c.args.text.now) (scalars-chars c.args.text.now c.utf8.text) as_is)
    c.put_quoted.ensures
