use Rattle.std.proofs.Common.{map}
use Rattle.rust_trees.specs.Leaves.{leaf}
use Rattle.macro_owners.proofs.Owning.{EachBefore, IsKnownWithin}
use Rattle.macro_owners.proofs.own.are_known.Given as goal

abbrev pub invariant-loop-call : goal.invariant-loop-call
invariant-loop-call l =
    EachBefore (IsKnownWithin (map leaf l.tokens) l.from l.to) l.calls l.call-index
