use Rattle.std.proofs.lemmas.Str.{encodes-chars}
use Rattle.asm_faults.proofs.notes.put_name.Goals as goal

pub returns : goal.returns
returns c = rw (encodes-chars c.args.name.now c.utf8.name) c.in_ok-push_str.ensures.bytes
