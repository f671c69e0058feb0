use Rattle.std.proofs.Common.{◌≡◌, ◌++◌, chars, encode_utf8_all, length, string_bytes}
use Rattle.drawn_lines.specs.Windows.{within_columns}
use denote.Text.{Utf8}
use denote.Shadow.{shadow}
use Rattle.drawn_lines.proofs.window.put_front_columns.Given as goal

-- The text added and what is still to be added are all.
abbrev pub invariant-loop-c : goal.invariant-loop-c
invariant-loop-c l = record {
  is_text : shadow (Utf8 l.rest);
  whole : string_bytes l.out ++ encode_utf8_all (within_columns l.countdown (chars l.rest))
      ≡ string_bytes l.fn.out ++ encode_utf8_all (within_columns l.fn.count (chars l.fn.text));
}

abbrev pub decreases-loop-c : goal.decreases-loop-c
decreases-loop-c l = length l.rest
