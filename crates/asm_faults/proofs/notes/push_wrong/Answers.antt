use Rattle.std.proofs.Common.{append_assoc}
use Rattle.asm_faults.proofs.notes.push_wrong.Goals as goal

pub returns : goal.returns
returns c =
    rw (
      c.in_ok-push_kind.ensures,
      c.operand_at.ensures,
      c.in_ok-push_note.ensures,
      c.deref.ensures,
      c.in_ok-text.ensures,
      c.noun.ensures,
    ) (simp append_assoc)
