use Rattle.std.proofs.Common.{◌≡◌, ◌≤◌, length}
use Rattle.drawn_lines.specs.Places.{after_lines}
use denote.Text.{Utf8}
use denote.Shadow.{shadow}
use Rattle.drawn_lines.proofs.places.after_lines.Given as goal

-- The rest after the lines that are still to pass is the one that is meant.
abbrev pub invariant-loop-countdown : goal.invariant-loop-countdown
invariant-loop-countdown l = record {
  is_text : shadow (Utf8 l.rest);
  same : after_lines l.countdown l.rest ≡ after_lines l.fn.count l.fn.text;
  short : length l.rest ≤ length l.fn.text;
}

abbrev pub decreases-loop-countdown : goal.decreases-loop-countdown
decreases-loop-countdown l = l.countdown
