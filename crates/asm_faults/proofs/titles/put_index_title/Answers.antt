use Rattle.std.proofs.Common.{append_assoc}
use Rattle.asm_faults.proofs.titles.put_index_title.Goals as goal

pub returns : goal.returns
returns c = rw (c.in_ok-put_number.ensures, c.in_ok-push_str.ensures.bytes) (simp append_assoc)
