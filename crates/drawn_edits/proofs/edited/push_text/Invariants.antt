use Rattle.std.proofs.Common.{◌≡◌, length}
use Rattle.std.specs.List.{slice_split}
use Rattle.drawn_edits.specs.EditedLines.{seen_page, with_texts}
use Rattle.drawn_lines.specs.Places.{is_line_feed}
use denote.Text.{Utf8}
use denote.Shadow.{shadow}
use Rattle.drawn_edits.proofs.edited.push_text.Given as goal

-- The rest, after the lines so far, is all after those at the start.
abbrev pub invariant-loop-line : goal.invariant-loop-line
invariant-loop-line l = record {
  is_text : shadow (Utf8 l.rest);
  same : with_texts l.style (slice_split is_line_feed l.rest)
      (seen_page l.lines.items l.row.items)
      ≡ with_texts l.style (slice_split is_line_feed l.text)
      (seen_page l.fn.lines.items l.fn.row.items);
}

abbrev pub decreases-loop-line : goal.decreases-loop-line
decreases-loop-line l = length l.rest
