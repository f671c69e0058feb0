use Rattle.drawn_lines.proofs.PrintableLemmas.{whole-as-is}
use Rattle.format_lint.proofs.tokens.put_drawn_text.Goals as goal

-- The text is drawn as it is.
pub returns-then-is_plain : goal.returns-then-is_plain
returns-then-is_plain c =
    rw (whole-as-is c.args.text.now c.utf8.text (c.requires c.if-is_plain.true))
    c.in_ok-push_str.ensures.bytes
