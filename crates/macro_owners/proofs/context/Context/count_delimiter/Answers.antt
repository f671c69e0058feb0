use Rattle.rust_trees.specs.Leaves.{leaf}
use Rattle.macro_owners.specs.Contexts.{seen}
use Rattle.macro_owners.proofs.Quieting.{keeps-depth}
use Rattle.macro_owners.proofs.context.Context.count_delimiter.Goals as goal

pub returns-then-self-eq0 : goal.returns-then-self-eq0
returns-then-self-eq0 c =
    keeps-depth (seen c.args.self.now) (leaf c.args.token) c.requires c.if-self-eq0.true
