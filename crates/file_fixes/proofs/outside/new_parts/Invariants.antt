use Rattle.std.proofs.Common.{◌≡◌, ◌++◌, drop, map}
use Rattle.fault_fixes.specs.SeenEdits.{seen_edit}
use Rattle.file_fixes.specs.Walk.{new_parts}
use Rattle.file_fixes.proofs.outside.new_parts.Given as goal

-- With the parts of the edits that are left, these are all.
abbrev pub invariant-loop-edit : goal.invariant-loop-edit
invariant-loop-edit l =
    l.parts.items ++ new_parts l.end (map seen_edit (drop l.edit-index l.edits))
    ≡ new_parts 0 (map seen_edit l.edits)
