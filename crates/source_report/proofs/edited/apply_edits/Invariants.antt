use Rattle.std.proofs.Common.{◌≡◌, ◌++◌, List, drop, map}
use Rattle.fault_fixes.specs.Edits.{Edit}
use Rattle.fault_fixes.specs.SeenEdits.{seen_edit}
use Rattle.source_report.specs.EditViews.{with_edits}
use Rattle.source_report.specs.Suggestions.{end_after}
use Rattle.source_report.proofs.edited.apply_edits.Given as goal

-- With the edits that are left, and any others, the text becomes what it does with all.
abbrev pub invariant-loop-edit : goal.invariant-loop-edit
invariant-loop-edit l = record {
  edits : (es : List Edit)
      → with_edits l.edited_text (map seen_edit (drop l.edit-index l.edits) ++ es)
      ≡ with_edits l.fn.edited_text (map seen_edit l.edits ++ es);
  end : end_after l.edited_text.end (map seen_edit (drop l.edit-index l.edits))
      ≡ end_after l.fn.edited_text.end (map seen_edit l.edits);
  ids : l.edited_text.ids ≡ l.fn.edited_text.ids;
}
