use Rattle.rust_trees.proofs.Once.{one-forest}
use Rattle.rust_trees.proofs.laws.one_forest.Goals as goal

pub returns : goal.returns
returns c = one-forest
