use Rattle.std.proofs.Common.{◌≡◌, map, take}
use Rattle.rust_trees.specs.Leaves.{leaf}
use Rattle.call_faults.specs.Views.{seen_given}
use Rattle.source_lint.specs.Givens.{given_argument}
use Rattle.source_lint.proofs.givens.givens.Given as goal

abbrev pub invariant-loop-argument : goal.invariant-loop-argument
invariant-loop-argument l = map seen_given l.list.items
    ≡ map (given_argument (map leaf l.tokens)) (take l.argument-index l.arguments)
