use Rattle.std.proofs.Common.{append_assoc, ne_eqb}
use Rattle.asm_faults.proofs.notes.put_count.Goals as goal

pub returns : goal.returns
returns c =
    rw (
      ne_eqb c.args.count 0 c.if-count-eq0.false,
      ne_eqb c.args.count 1 c.if-count-eq1.false,
      c.in_ok-push_str-9.ensures.bytes,
      c.in_ok-push_str-8.ensures.bytes,
      c.in_ok-push_str-7.ensures.bytes,
      c.in_ok-put_number.ensures,
      c.in_ok-push_str-6.ensures.bytes,
    ) (simp append_assoc)
