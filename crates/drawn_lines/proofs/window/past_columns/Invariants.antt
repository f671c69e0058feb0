use Rattle.std.proofs.Common.{◌≡◌, ◌+◌, ◌*◌, ◌≤◌, chars, length}
use Rattle.drawn_lines.specs.Windows.{left_out_columns, past_columns}
use denote.Text.{Utf8}
use denote.Shadow.{shadow}
use Rattle.drawn_lines.proofs.window.past_columns.Given as goal

-- The rest without the columns that are still to be left out is what is meant, and the columns left
-- out so far and those are all that are left out.
abbrev pub invariant-loop-c : goal.invariant-loop-c
invariant-loop-c l = record {
  is_text : shadow (Utf8 l.rest);
  same : past_columns l.countdown (chars l.rest) ≡ past_columns l.fn.count (chars l.fn.text);
  whole : l.columns + left_out_columns l.countdown (chars l.rest)
      ≡ left_out_columns l.fn.count (chars l.fn.text);
  few : l.columns + 4 * length l.rest ≤ 4 * length l.fn.text;
  short : length l.rest ≤ length l.fn.text;
}

abbrev pub decreases-loop-c : goal.decreases-loop-c
decreases-loop-c l = length l.rest
