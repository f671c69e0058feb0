use Rattle.std.proofs.Common.{◌≡◌, ◌+◌, ◌*◌, ◌<◌, ◌^◌, chars, length}
use Rattle.drawn_edits.specs.Helps.{columns_of}
use denote.Text.{Utf8}
use denote.Shadow.{shadow}
use Rattle.drawn_edits.proofs.changes.columns_of.Given as goal

-- The answer for the rest is the answer for all.
abbrev pub invariant-loop-c : goal.invariant-loop-c
invariant-loop-c l = record {
  is_text : shadow (Utf8 l.rest);
  same : columns_of l.columns (chars l.rest) ≡ columns_of 0 (chars l.text);
  few : l.columns + 4 * length l.rest < 2 ^ 62;
}

abbrev pub decreases-loop-c : goal.decreases-loop-c
decreases-loop-c l = length l.rest
