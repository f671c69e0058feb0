use Rattle.std.proofs.Common.{◌++◌, List, length, map}
use Rattle.rust_trees.specs.Leaves.{AreLeft, Leaf, leaf}
use Rattle.rust_trees.proofs.leaves.leaves.Given as goal

abbrev pub invariant-loop-token : goal.invariant-loop-token
invariant-loop-token l = (ls : List Leaf) → AreLeft l.rest ls
    → AreLeft l.initial.rest (map leaf l.tokens.items ++ ls)

abbrev pub decreases-loop-token : goal.decreases-loop-token
decreases-loop-token l = length l.rest.rest
