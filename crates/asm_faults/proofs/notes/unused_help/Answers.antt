use Rattle.std.proofs.Common.{append_assoc}
use Rattle.asm_faults.proofs.notes.unused_help.Goals as goal

pub returns : goal.returns
returns c =
    rw (
      c.in_ok-push_str.ensures.bytes,
      c.in_ok-put_placeholders.ensures,
      c.in_ok-text.ensures.ok,
      c.unused_start.ensures,
    ) (simp append_assoc)
