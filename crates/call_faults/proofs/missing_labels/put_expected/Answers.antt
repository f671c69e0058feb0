use Rattle.std.proofs.Common.{append_assoc, ne_eqb}
use Rattle.call_faults.proofs.missing_labels.put_expected.Goals as goal

pub returns : goal.returns
returns c =
    rw (
      ne_eqb c.args.count 1 c.if-count-eq1.false,
      c.in_ok-push_str-3.ensures.bytes,
      c.in_ok-put_number.ensures,
      c.in_ok-push_str-2.ensures.bytes,
    ) (simp append_assoc)
