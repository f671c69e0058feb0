use Rattle.std.proofs.Common.{◌≡◌, ◌++◌, drop, map}
use Rattle.fault_fixes.specs.SeenEdits.{seen_edit}
use Rattle.source_report.specs.Suggestions.{help_edit}
use Rattle.file_fixes.proofs.all_faults.owned_edits.Given as goal

-- With the edits that are left the list is that of all edits.
abbrev pub invariant-loop-edit : goal.invariant-loop-edit
invariant-loop-edit l =
    map help_edit l.list.items ++ map seen_edit (drop l.edit-index l.edits) ≡ map seen_edit l.edits
