use Rattle.std.proofs.Common.{append_assoc}
use Rattle.asm_faults.proofs.labels.push_late.Goals as goal

pub returns : goal.returns
returns c =
    rw (
      c.in_ok-push_kinds.ensures,
      c.in_ok-push_label.ensures,
    ) (simp append_assoc)
