use Rattle.std.proofs.Common.{◌∙◌, sym}
use Rattle.std.proofs.lemmas.Str.{encodes-chars}
use Rattle.inlined_arguments.proofs.edits.name_text.Goals as goal

pub returns : goal.returns
returns c = c.in_ok-from_str.ensures.ok ∙ sym (encodes-chars c.args.name.now c.utf8.name)
