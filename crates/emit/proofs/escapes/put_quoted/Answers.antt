use Rattle.std.proofs.Common.{append_assoc}
use Rattle.emit.proofs.escapes.put_quoted.Goals as goal

pub returns : goal.returns
returns c =
    rw (
      c.in_ok-push_str-2.ensures.bytes,
      c.in_ok-put_shown.ensures.written,
      c.in_ok-push_str.ensures.bytes,
    )
    (simp append_assoc)
