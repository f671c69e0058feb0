use Rattle.std.proofs.Common.{append_assoc}
use Rattle.emit.proofs.Texts.{array-of-one}
use Rattle.emit.proofs.sarif.put_invocations.Goals as goal

pub returns : goal.returns
returns c =
    rw (
      array-of-one,
      c.in_ok-push_str-2.ensures.bytes,
      c.in_ok-put_invocation.ensures,
      c.in_ok-push_str.ensures.bytes,
    )
    (simp append_assoc)
