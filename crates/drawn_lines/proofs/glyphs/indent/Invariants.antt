use Rattle.std.proofs.Common.{◌≡◌, ◌+◌, ◌*◌, ◌≤◌, chars, length}
use Rattle.rustc_parse_format.specs.Characters.{front}
use Rattle.drawn_lines.specs.Glyphs.{indent}
use Rattle.drawn_lines.specs.Places.{first_line}
use Rattle.drawn_lines.proofs.LineLemmas.{goes_on}
use denote.Text.{Utf8}
use denote.Shadow.{shadow}
use Rattle.drawn_lines.proofs.glyphs.indent.Given as goal

-- The columns so far and the indent of what is left of the line are the whole indent.
abbrev pub invariant-loop-c : goal.invariant-loop-c
invariant-loop-c l = record {
  is_text : shadow (Utf8 l.rest);
  whole : indent l.columns (front goes_on (chars l.rest))
      ≡ indent 0 (chars (first_line l.fn.text));
  few : l.columns + 4 * length l.rest ≤ 4 * length l.fn.text;
}

abbrev pub decreases-loop-c : goal.decreases-loop-c
decreases-loop-c l = length l.rest
