use Rattle.std.proofs.Common.{◌≡◌, ◌+◌, ◌++◌, ◌≤◌, [], drop, map, string_bytes}
use Rattle.std.specs.List.{slice_range}
use Rattle.drawn_edits.specs.EditedLines.{seen_line}
use Rattle.drawn_edits.specs.Helps.{changed_rows}
use Rattle.drawn_lines.specs.Frames.{seen_frame}
use Rattle.drawn_edits.proofs.changes.put_changed_rows.Given as goal

-- The text added, and then the rest of it, is all.
abbrev pub invariant-loop-index : goal.invariant-loop-index
invariant-loop-index l = record {
  before : l.first_index ≤ l.index;
  same : string_bytes l.out ++ changed_rows (seen_frame l.frame) (l.number + l.first_index)
      (map seen_line (slice_range l.lines l.first_index l.index))
      (map seen_line (drop l.index l.lines))
      ≡ string_bytes l.fn.out
      ++ changed_rows (seen_frame l.frame) l.number [] (map seen_line l.lines);
}
