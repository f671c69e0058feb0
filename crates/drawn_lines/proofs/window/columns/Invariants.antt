use Rattle.std.proofs.Common.{◌≡◌, ◌+◌, ◌*◌, ◌≤◌, chars, length}
use Rattle.drawn_lines.specs.Windows.{columns}
use denote.Text.{Utf8}
use denote.Shadow.{shadow}
use Rattle.drawn_lines.proofs.window.columns.Given as goal

-- The columns so far and those of the rest are all columns.
abbrev pub invariant-loop-c : goal.invariant-loop-c
invariant-loop-c l = record {
  is_text : shadow (Utf8 l.rest);
  whole : l.count + columns (chars l.rest) ≡ columns (chars l.fn.text);
  few : l.count + 4 * length l.rest ≤ 4 * length l.fn.text;
}

abbrev pub decreases-loop-c : goal.decreases-loop-c
decreases-loop-c l = length l.rest
