use Rattle.std.proofs.Common.{◌≡◌, ◌≤◌, ◌++◌, List, length, map}
use Rattle.rust_trees.specs.Leaves.{AreLeft, Leaf, leaf}
use Rattle.rust_trees.specs.Matching.{IsMatched}
use Rattle.rust_trees.proofs.source.Source.read_group.Given as goal

abbrev pub invariant-loop-token : goal.invariant-loop-token
invariant-loop-token l = record {
  matched : IsMatched (map leaf l.tokens.items) l.matching;
  file : l.rest.whole ≡ l.initial.rest.whole;
  fewer : length l.rest.rest ≤ length l.initial.rest.rest;
  joins : (more : List Leaf) × (map leaf l.tokens.items ≡ map leaf l.front ++ more)
      × ((ls : List Leaf) → AreLeft l.rest ls → AreLeft l.initial.rest (more ++ ls));
}

abbrev pub decreases-loop-token : goal.decreases-loop-token
decreases-loop-token l = length l.rest.rest
