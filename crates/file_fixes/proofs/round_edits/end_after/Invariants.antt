use Rattle.std.proofs.Common.{◌≡◌, drop, map}
use Rattle.fault_fixes.specs.SeenEdits.{seen_edit}
use Rattle.source_report.specs.Suggestions.{end_after}
use Rattle.file_fixes.proofs.round_edits.end_after.Given as goal

-- The edits that are left decide.
abbrev pub invariant-loop-edit : goal.invariant-loop-edit
invariant-loop-edit l = end_after l.end (map seen_edit (drop l.edit-index l.edits))
    ≡ end_after l.at (map seen_edit l.edits)
