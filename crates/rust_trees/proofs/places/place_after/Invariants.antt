use denote.Shadow.{shadow}
use denote.Text.{Utf8}
use Rattle.std.proofs.Common.{◌≡◌, ◌+◌, ◌<◌, ◌^◌, chars, length}
use Rattle.rust_trees.specs.Places.{place_after}
use Rattle.rust_trees.proofs.places.place_after.Given as goal

abbrev pub invariant-loop-c : goal.invariant-loop-c
invariant-loop-c l = record {
  current_place : place_after l.fn.place (chars l.front) (chars l.back)
      ≡ place_after l.current_place (chars l.rest) (chars l.back);
  line : l.current_place.line + length l.rest < 2 ^ 64;
  utf8 : shadow (Utf8 l.rest);
  column : l.current_place.column + length l.rest < 2 ^ 64;
}

abbrev pub decreases-loop-c : goal.decreases-loop-c
decreases-loop-c l = length l.rest
