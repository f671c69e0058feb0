use Rattle.std.proofs.Common.{append_assoc}
use Rattle.emit.proofs.Texts.{member-text}
use Rattle.emit.proofs.members.put_key.Goals as goal

pub returns : goal.returns
returns c d ms =
    rw (
      member-text,
      c.in_ok-push_str-2.ensures.bytes,
      c.in_ok-put_quoted.ensures,
      c.in_ok-push_str.ensures.bytes,
      c.opening.ensures,
    )
    (simp append_assoc)
