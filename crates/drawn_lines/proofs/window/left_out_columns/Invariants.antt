use Rattle.std.proofs.Common.{◌≡◌, ◌+◌, ◌*◌, ◌≤◌, chars, length}
use Rattle.drawn_lines.specs.Glyphs.{glyphs}
use Rattle.drawn_lines.specs.Windows.{left_out_columns}
use denote.Text.{Utf8}
use denote.Shadow.{shadow}
use Rattle.drawn_lines.proofs.window.left_out_columns.Given as goal

-- The columns left out so far and those that are still to be left out are all.
abbrev pub invariant-loop-c : goal.invariant-loop-c
invariant-loop-c l = record {
  is_text : shadow (Utf8 l.rest);
  whole : l.columns + left_out_columns l.countdown (glyphs (chars l.rest))
      ≡ left_out_columns l.fn.count (glyphs (chars l.fn.text));
  few : l.columns + 16 * length l.rest ≤ 16 * length l.fn.text;
}

abbrev pub decreases-loop-c : goal.decreases-loop-c
decreases-loop-c l = length l.rest
