use Rattle.std.proofs.Common.{◌∙◌}
use Rattle.std.proofs.lemmas.Str.{encodes-chars}
use Rattle.asm_faults.proofs.operands.index_of.Goals as goal

pub returns : goal.returns
returns c = rw (encodes-chars c.args.name.now c.utf8.name) (c.copied.ensures ∙ c.get.ensures.value)
