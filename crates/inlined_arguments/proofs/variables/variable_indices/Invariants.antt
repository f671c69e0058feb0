use Rattle.std.proofs.Common.{◌≡◌, ◌++◌, drop, map}
use Rattle.inlined_arguments.specs.Views.{seen_argument}
use Rattle.inlined_arguments.specs.Variables.{gone_from}
use Rattle.inlined_arguments.proofs.variables.variable_indices.Given as goal

-- What was found, and then what is found of the arguments that are left, is all.
abbrev pub invariant-loop-index : goal.invariant-loop-index
invariant-loop-index l = l.removed_indices.items
    ++ gone_from l.index (map seen_argument (drop l.index l.arguments))
    ≡ gone_from 0 (map seen_argument l.arguments)
