use Rattle.std.proofs.Common.{◌≡◌, map, take}
use Rattle.inlined_arguments.specs.Views.{seen_edit}
use Rattle.file_inlines.specs.CallInlines.{moved_edit}
use Rattle.file_inlines.proofs.edits.move_edits.Given as goal

abbrev pub invariant-loop-edit : goal.invariant-loop-edit
invariant-loop-edit l = map seen_edit l.list.items
    ≡ map (moved_edit l.offset) (map seen_edit (take l.edit-index l.edits))
