use Rattle.std.proofs.Common.{◌≡◌, drop, map}
use Rattle.fault_fixes.specs.SeenEdits.{seen_edit}
use Rattle.source_report.specs.Suggestions.{end_after}
use Rattle.file_fixes.specs.Mending.{new_end}
use Rattle.file_fixes.proofs.mended.last_end.Given as goal

-- The edits that are left decide.
abbrev pub invariant-loop-edit : goal.invariant-loop-edit
invariant-loop-edit l = record {
  old : end_after l.end.old (map seen_edit (drop l.edit-index l.edits))
      ≡ end_after l.fn.before.old (map seen_edit l.edits);
  new : new_end l.end.old l.end.new (map seen_edit (drop l.edit-index l.edits))
      ≡ new_end l.fn.before.old l.fn.before.new (map seen_edit l.edits);
}
