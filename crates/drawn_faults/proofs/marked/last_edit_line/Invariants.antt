use Rattle.std.proofs.Common.{◌≡◌, ◌<◌, ◌^◌, drop, map}
use Rattle.drawn_faults.specs.Diagnostics.{last_edit_line}
use Rattle.drawn_edits.specs.EditedLines.{seen_edit}
use Rattle.drawn_faults.proofs.marked.last_edit_line.Given as goal

-- The answer for the rest is the answer for all.
abbrev pub invariant-loop-edit : goal.invariant-loop-edit
invariant-loop-edit l = record {
  same : last_edit_line l.line (map seen_edit (drop l.edit-index l.edits))
      ≡ last_edit_line l.last (map seen_edit l.edits);
  small : l.line < 2 ^ 59;
}
