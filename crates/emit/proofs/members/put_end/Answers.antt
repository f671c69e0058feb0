use Rattle.emit.proofs.Texts.{object-end}
use Rattle.emit.proofs.members.put_end.Goals as goal

pub returns : goal.returns
returns c = rw object-end c.in_ok-push_str.ensures.bytes
