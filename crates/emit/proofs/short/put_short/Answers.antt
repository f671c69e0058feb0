use Rattle.std.proofs.Common.{append_assoc}
use Rattle.emit.proofs.short.put_short.Goals as goal

pub returns-clause-written : goal.returns-clause-written
returns-clause-written c =
    rw (
      c.in_ok-push_str-6.ensures.bytes,
      c.in_ok-put_shown-3.ensures.written,
      c.in_ok-push_str-5.ensures.bytes,
      c.in_ok-put_shown-2.ensures.written,
      c.in_ok-push_str-4.ensures.bytes,
      c.in_ok-push_str-3.ensures.bytes,
      c.in_ok-push_str-2.ensures.bytes,
      c.in_ok-put_place.ensures,
      c.in_ok-push_str.ensures.bytes,
      c.in_ok-put_shown.ensures.written,
      c.level_name.ensures,
    )
    (simp (append_assoc))
