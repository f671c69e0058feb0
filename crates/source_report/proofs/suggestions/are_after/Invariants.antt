use Rattle.std.proofs.Common.{◌≡◌, drop, map}
use Rattle.fault_fixes.specs.SeenEdits.{seen_edit}
use Rattle.source_report.specs.Suggestions.{are_after}
use Rattle.source_report.proofs.suggestions.are_after.Given as goal

-- The edits that are left decide.
abbrev pub invariant-loop-edit : goal.invariant-loop-edit
invariant-loop-edit l = are_after l.end (map seen_edit (drop l.edit-index l.edits))
    ≡ are_after l.fn.at (map seen_edit l.edits)
