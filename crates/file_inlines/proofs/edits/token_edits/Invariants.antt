use Rattle.std.proofs.Common.{map, take}
use Rattle.inlined_arguments.specs.Views.{seen_edit}
use Rattle.file_inlines.specs.CallInlines.{AreInToken}
use Rattle.file_inlines.proofs.edits.token_edits.Given as goal

abbrev pub invariant-loop-edit : goal.invariant-loop-edit
invariant-loop-edit l = AreInToken l.crs (map seen_edit (take l.edit-index l.edits))
    (map seen_edit l.list.items)
