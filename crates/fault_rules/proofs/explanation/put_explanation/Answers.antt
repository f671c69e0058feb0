use Rattle.std.proofs.Common.{append_assoc}
use Rattle.fault_rules.proofs.explanation.put_explanation.Goals as goal

pub returns : goal.returns
returns c =
    rw (
      c.in_ok-put_example-2.ensures,
      c.in_ok-put_example.ensures,
      c.in_ok-push_str-6.ensures.bytes,
      c.in_ok-push_str-5.ensures.bytes,
      c.in_ok-push_str-4.ensures.bytes,
      c.in_ok-push_str-3.ensures.bytes,
      c.in_ok-push_str-2.ensures.bytes,
      c.in_ok-push_str.ensures.bytes,
    )
    (simp append_assoc)
