use Rattle.std.proofs.Common.{◌≡◌, ◌++◌, drop, map}
use Rattle.fault_fixes.specs.SeenEdits.{seen_edit}
use Rattle.file_fixes.specs.Walk.{old_parts}
use Rattle.file_fixes.proofs.outside.old_parts.Given as goal

-- With the parts of the edits that are left, these are all.
abbrev pub invariant-loop-edit : goal.invariant-loop-edit
invariant-loop-edit l =
    l.parts.items ++ old_parts l.end (map seen_edit (drop l.edit-index l.edits))
    ≡ old_parts 0 (map seen_edit l.edits)
