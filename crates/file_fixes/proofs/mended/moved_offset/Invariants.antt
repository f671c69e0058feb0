use Rattle.std.proofs.Common.{◌≡◌, drop, map}
use Rattle.fault_fixes.specs.SeenEdits.{seen_edit}
use Rattle.file_fixes.specs.Mending.{moved_offset}
use Rattle.file_fixes.proofs.mended.moved_offset.Given as goal

-- The edits that are left decide.
abbrev pub invariant-loop-edit : goal.invariant-loop-edit
invariant-loop-edit l =
    moved_offset l.end.old l.end.new (map seen_edit (drop l.edit-index l.edits)) l.offset
    ≡ moved_offset l.fn.before.old l.fn.before.new (map seen_edit l.edits) l.offset
