use Rattle.std.proofs.lemmas.Str.{encodes-chars}
use Rattle.drawn_lines.proofs.window.put_up_to_dots.Goals as goal

pub returns-then-not-is_wide : goal.returns-then-not-is_wide
returns-then-not-is_wide c =
    rw (c.if-not-is_wide.true, encodes-chars c.args.rest.now c.utf8.rest)
    c.in_ok-push_str.ensures.bytes
