use Rattle.std.proofs.Common.{sym, ◌∙◌}
use Rattle.rust_trees.specs.Leaves.{leaf}
use Rattle.macro_owners.specs.Contexts.{seen}
use Rattle.macro_owners.proofs.Quieting.{adds-spoiled}
use Rattle.macro_owners.proofs.facts.pass_token.Goals as goal

pub returns-then-is_plain-clause-adds :
    goal.returns-then-is_plain-clause-adds
returns-then-is_plain-clause-adds c =
    adds-spoiled (seen c.args.context.now) (leaf c.args.token) c.args.facts.now _
    (c.requires c.if-was_quiet.true) (sym c.is_plain.ensures ∙ c.if-is_plain.true)
    c.in_ok-put_spoiled.ensures
