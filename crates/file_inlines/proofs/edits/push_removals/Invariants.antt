use Rattle.std.proofs.Common.{◌≡◌, ◌++◌, drop, map}
use Rattle.std.specs.Prelude.{option_map, slice_get}
use Rattle.std.specs.List.{filter_map}
use Rattle.rust_trees.specs.Leaves.{leaf}
use Rattle.inlined_arguments.specs.Views.{seen_edit}
use Rattle.file_inlines.specs.CallInlines.{removal}
use Rattle.file_inlines.proofs.edits.push_removals.Given as goal

-- With the removals of the indices that are left, these are all.
abbrev pub invariant-loop-index : goal.invariant-loop-index
invariant-loop-index l = map seen_edit l.edits.items
    ++ filter_map (λ n. option_map (removal l.text (map leaf l.tokens)) (slice_get l.arguments n))
    (drop l.index-index l.indices)
    ≡ map seen_edit l.fn.edits.items
    ++ filter_map (λ n. option_map (removal l.text (map leaf l.tokens)) (slice_get l.arguments n))
    l.indices
