use Rattle.rust_trees.proofs.Once.{one-break}
use Rattle.rust_trees.proofs.laws.one_break.Goals as goal

pub returns : goal.returns
returns c = one-break
