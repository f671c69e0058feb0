use Rattle.std.proofs.Common.{◌≡◌, ◌+◌, ◌++◌, length, chars, replicate}
use denote.Shadow.{shadow}
use denote.Text.{Utf8}
use Rattle.piece_listing.proofs.literal.leading_hashes.Given as goal

-- The hashes so far and the rest are the whole text.
abbrev pub invariant-loop-rest_after : goal.invariant-loop-rest_after
invariant-loop-rest_after l = record {
  is_text : shadow (Utf8 l.rest);
  all : chars l.fn.text ≡ replicate l.count 35 ++ chars l.rest;
  few : l.count + length l.rest ≡ length l.fn.text;
}

abbrev pub decreases-loop-rest_after : goal.decreases-loop-rest_after
decreases-loop-rest_after l = length l.rest
