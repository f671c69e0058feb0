use Rattle.std.proofs.Common.{◌++◌, List, map, take}
use Rattle.rust_trees.specs.Balances.{IsBalanced}
use Rattle.rust_trees.specs.Leaves.{Leaf, leaf}
use Rattle.rust_trees.proofs.balance.Balance.add_all.Given as goal

abbrev pub invariant-loop-token : goal.invariant-loop-token
invariant-loop-token l = (w : List Leaf) → IsBalanced w l.initial.self
    → IsBalanced (w ++ map leaf (take l.token-index l.tokens)) l.self
