use Rattle.std.proofs.lemmas.Str.{encodes-chars}
use Rattle.message_faults.proofs.checker.has_name.Goals as goal

pub returns : goal.returns
returns c = rw (encodes-chars c.args.name.now c.utf8.name) c.contains.ensures
