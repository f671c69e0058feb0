use Rattle.std.proofs.Common.{append_assoc, ap}
use Rattle.lint_program.specs.Messages.{place_text}
use Rattle.lint_program.proofs.messages.put_not_literal.Goals as goal

pub returns : goal.returns
returns c =
    rw (
      c.in_ok-push_str-2.ensures.bytes,
      c.in_ok-put_message.ensures,
      c.in_ok-push_str.ensures.bytes,
      c.in_ok-put_place.ensures,
      c.in_ok-put_opening.ensures,
      ap place_text c.place_at.ensures,
    )
    (simp append_assoc)
