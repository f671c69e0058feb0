use Rattle.std.proofs.Common.{map}
use Rattle.rust_trees.specs.Leaves.{leaf}
use Rattle.macro_owners.proofs.RightSides.{PlainSoFar, UsesSoFar}
use Rattle.macro_owners.proofs.rights.rule_of_right.Given as goal

abbrev pub invariant-loop-index : goal.invariant-loop-index
invariant-loop-index l = record {
  uses : UsesSoFar l.calls (map leaf l.tokens) l.right l.found l.index;
  plain : PlainSoFar (map leaf l.tokens) l.right l.index;
}
