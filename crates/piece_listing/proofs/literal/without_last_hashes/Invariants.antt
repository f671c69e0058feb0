use Rattle.std.proofs.Common.{◌≡◌, ◌++◌, chars, replicate}
use denote.Shadow.{shadow}
use denote.Text.{Utf8}
use Rattle.piece_listing.proofs.literal.without_last_hashes.Given as goal

-- The hashes so far come after the rest.
abbrev pub invariant-loop : goal.invariant-loop
invariant-loop l = record {
  is_text : shadow (Utf8 l.rest);
  all : chars l.rest ++ replicate l.counter 35 ≡ chars l.fn.text;
}
