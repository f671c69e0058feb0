use Rattle.std.proofs.Common.{length}
use Rattle.std.specs.Prelude.{option_map}
use Rattle.rust_trees.specs.Leaves.{leaf}
use Rattle.source_lint.specs.Macros.{names_in}
use Rattle.source_lint.proofs.Defining.{Defines}
use Rattle.source_lint.proofs.macros.macro_names.Given as goal

abbrev pub invariant-loop-token : goal.invariant-loop-token
invariant-loop-token l = Defines l.initial.rest l.rest (names_in l.names)
    (option_map leaf l.previous) (option_map leaf l.last)

abbrev pub decreases-loop-token : goal.decreases-loop-token
decreases-loop-token l = length l.rest.rest
