use Rattle.std.proofs.Common.{length}
use Rattle.drawn_edits.proofs.EditLines.{IsPassed}
use denote.Text.{Utf8}
use denote.Shadow.{shadow}
use Rattle.drawn_edits.proofs.edited.split_within.Given as goal

-- The text passed, and then the rest, is all.
abbrev pub invariant-loop-c : goal.invariant-loop-c
invariant-loop-c l = record {
  is_text : shadow (Utf8 l.rest);
  passed : IsPassed l.text l.rest l.fn.width l.countdown;
}

abbrev pub decreases-loop-c : goal.decreases-loop-c
decreases-loop-c l = length l.rest
