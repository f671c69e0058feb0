use Rattle.std.proofs.Common.{◌≡◌, chars, length}
use Rattle.std.specs.Char.{is_whitespace}
use Rattle.std.specs.List.{list_all}
use denote.Text.{Utf8}
use denote.Shadow.{shadow}
use Rattle.drawn_labels.proofs.long.is_blank.Given as goal

-- The answer for the rest is the answer for all.
abbrev pub invariant-loop-c : goal.invariant-loop-c
invariant-loop-c l = record {
  is_text : shadow (Utf8 l.rest);
  same : list_all is_whitespace (chars l.rest) ≡ list_all is_whitespace (chars l.fn.text);
}

abbrev pub decreases-loop-c : goal.decreases-loop-c
decreases-loop-c l = length l.rest
