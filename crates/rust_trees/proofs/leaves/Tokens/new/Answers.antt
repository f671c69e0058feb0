use Rattle.rust_trees.proofs.LeavesRead.{left-all}
use Rattle.rust_trees.proofs.leaves.Tokens.new.Goals as goal

pub returns-clause-left : goal.returns-clause-left
returns-clause-left c ls l =
    let h = c.skip_head.ensures in left-all _ _ h.0 h.1 h.2 h.3 ls l
