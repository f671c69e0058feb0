use Rattle.std.proofs.Common.{◌∙◌}
use Rattle.source_lint.proofs.Defining.{set-has}
use Rattle.source_lint.proofs.macros.is_defined.Goals as goal

pub returns : goal.returns
returns c = c.contains.ensures ∙ set-has c.args.names.now c.args.word.now
