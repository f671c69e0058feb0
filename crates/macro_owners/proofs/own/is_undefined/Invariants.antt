use Rattle.std.proofs.Common.{map}
use Rattle.rust_trees.specs.Leaves.{leaf}
use Rattle.macro_owners.proofs.Owning.{EachBefore, IsUnlike}
use Rattle.macro_owners.proofs.own.is_undefined.Given as goal

abbrev pub invariant-loop-given : goal.invariant-loop-given
invariant-loop-given l = EachBefore (IsUnlike (map leaf l.tokens) l.name) l.names l.given-index
