use Rattle.std.proofs.Common.{append_assoc}
use Rattle.asm_faults.proofs.labels.push_wrong.Goals as goal

pub returns : goal.returns
returns c =
    rw (
      c.in_ok-push_kind_at.ensures,
      c.operand_at.ensures,
      c.in_ok-push_label.ensures,
    ) (simp append_assoc)
