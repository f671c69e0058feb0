use Rattle.std.proofs.Common.{◌∙◌}
use Rattle.placeholder_check.proofs.Naming.{same_bytes}
use Rattle.placeholder_check.proofs.names.is_same.Goals as goal

pub returns : goal.returns
returns c = c.eq.ensures ∙ same_bytes c.args.a.now c.args.b.now c.utf8.a c.utf8.b
