use Rattle.std.proofs.Common.{◌≡◌, chars, length}
use Rattle.drawn_labels.specs.Long.{is_bare}
use denote.Text.{Utf8}
use denote.Shadow.{shadow}
use Rattle.drawn_labels.proofs.long.is_bare.Given as goal

-- The answer for the rest is the answer for all.
abbrev pub invariant-loop-c : goal.invariant-loop-c
invariant-loop-c l = record {
  is_text : shadow (Utf8 l.rest);
  same : is_bare (chars l.rest) ≡ is_bare (chars l.fn.line);
}

abbrev pub decreases-loop-c : goal.decreases-loop-c
decreases-loop-c l = length l.rest
