use Rattle.std.proofs.Common.{◌∙◌}
use Rattle.macro_owners.proofs.Collecting.{set-has}
use Rattle.macro_owners.proofs.certain.has.Goals as goal

pub returns : goal.returns
returns c = c.contains.ensures ∙ set-has c.args.names.now c.args.name.now
