use Rattle.std.proofs.Common.{map}
use Rattle.rust_trees.specs.Leaves.{leaf}
use Rattle.macro_owners.proofs.RightSides.{handed}
use Rattle.macro_owners.proofs.rights.rule_of_use.Goals as goal

pub returns-then-is_copy : goal.returns-then-is_copy
returns-then-is_copy c =
    handed c.args.calls.now (map leaf c.args.tokens.now) c.args.right c.in_ok-call.call c.args.index
    c.in_ok-call.ensures.0 c.in_ok-call.ensures.1 c.if-index-lt5.false c.if-call-index.true
    c.if-right-call.true c.if-call-right.true c.if-is_copy.ensures
