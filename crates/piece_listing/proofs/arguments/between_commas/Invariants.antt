use Rattle.std.proofs.Common.{◌≡◌, ◌++◌, chars, length, map}
use denote.Shadow.{shadow}
use denote.Text.{Utf8}
use Rattle.placeholder_check.specs.Views.{texts}
use Rattle.piece_listing.specs.GivenArguments.{parts}
use Rattle.piece_listing.proofs.arguments.between_commas.Given as goal

-- The names so far and those of the rest are all the names.
abbrev pub invariant-loop-name : goal.invariant-loop-name
invariant-loop-name l = record {
  is_text : shadow (Utf8 l.rest);
  names : texts l.names.items ++ map chars (parts l.rest) ≡ map chars (parts l.fn.text);
}

abbrev pub decreases-loop-name : goal.decreases-loop-name
decreases-loop-name l = length l.rest
