use Rattle.std.proofs.Common.{◌≡◌, map, take}
use Rattle.rust_trees.specs.Leaves.{leaf}
use Rattle.inlined_arguments.specs.Views.{seen_argument}
use Rattle.file_inlines.specs.Sources.{with_source}
use Rattle.file_inlines.proofs.sources.with_sources.Given as goal

abbrev pub invariant-loop-argument : goal.invariant-loop-argument
invariant-loop-argument l = map seen_argument l.list.items
    ≡ map (with_source l.text (map leaf l.tokens)) (take l.argument-index l.arguments)
