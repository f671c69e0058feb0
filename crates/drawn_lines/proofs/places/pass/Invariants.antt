use Rattle.std.proofs.Common.{◌≡◌, ◌+◌, ◌*◌, ◌≤◌, ℕ, chars, length}
use Rattle.std.specs.List.{fold}
use Rattle.drawn_lines.specs.Places.{spot_past, front_within}
use denote.Text.{Utf8}
use denote.Shadow.{shadow}
use Rattle.drawn_lines.proofs.places.pass.Given as goal

-- From the place so far on, the bytes that are left, and as many more, lead to the same place.
abbrev pub invariant-loop-c : goal.invariant-loop-c
invariant-loop-c l = record {
  is_text : shadow (Utf8 l.rest);
  on : (more : ℕ) → fold spot_past l.fn.start (front_within (l.fn.width + more) (chars l.fn.text))
      ≡ fold spot_past l.at (front_within (l.countdown + more) (chars l.rest));
  value : fold spot_past l.at (front_within l.countdown (chars l.rest))
      ≡ fold spot_past l.fn.start (front_within l.fn.width (chars l.fn.text));
  fewer : l.countdown ≤ l.fn.width;
  lines : l.at.line + length l.rest ≤ l.fn.start.line + length l.fn.text;
  chars : l.at.chars + length l.rest ≤ l.fn.start.chars + length l.fn.text;
  columns : l.at.column + 4 * length l.rest ≤ l.fn.start.column + 4 * length l.fn.text;
}

abbrev pub decreases-loop-c : goal.decreases-loop-c
decreases-loop-c l = length l.rest
