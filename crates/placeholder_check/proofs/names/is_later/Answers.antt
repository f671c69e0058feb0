use Rattle.std.proofs.lemmas.Str.{encodes-chars}
use Rattle.placeholder_check.proofs.names.is_later.Goals as goal

pub returns : goal.returns
returns c = rw (encodes-chars c.args.name.now c.utf8.name) c.contains.ensures
