use Rattle.std.proofs.Common.{map, take}
use Rattle.rust_trees.specs.Leaves.{leaf}
use Rattle.rust_trees.specs.Matching.{IsMatched}
use Rattle.rust_trees.proofs.matching.match_delimiters.Given as goal

abbrev pub invariant-loop-token : goal.invariant-loop-token
invariant-loop-token l = IsMatched (map leaf (take l.token-index l.tokens)) l.matching
