use Rattle.rust_trees.specs.Leaves.{leaf}
use Rattle.asm_lint.proofs.AsmSteps.{leaf-there}
use Rattle.asm_lint.proofs.assembly.first_token.Goals as goal

pub returns : goal.returns
returns c = leaf-there leaf c.args.tokens.now c.args.argument.now.start _ c.requires
