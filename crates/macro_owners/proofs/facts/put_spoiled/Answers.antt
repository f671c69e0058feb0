use Rattle.rust_trees.specs.Leaves.{leaf}
use Rattle.macro_owners.specs.Contexts.{seen}
use Rattle.macro_owners.proofs.Quieting.{no-spoiled, same-set}
use Rattle.macro_owners.proofs.facts.put_spoiled.Goals as goal

pub returns-then-context-eq0 : goal.returns-then-context-eq0
returns-then-context-eq0 c =
    same-set c.args.names.now _
    (no-spoiled (seen c.args.context) (leaf c.args.token) c.if-context-eq0.true c.requires)
