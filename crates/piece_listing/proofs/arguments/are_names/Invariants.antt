use Rattle.std.proofs.Common.{◌≡◌, length}
use Rattle.std.specs.List.{list_all}
use denote.Shadow.{shadow}
use denote.Text.{Utf8}
use Rattle.piece_listing.specs.GivenArguments.{is_name, parts}
use Rattle.piece_listing.proofs.arguments.are_names.Given as goal

-- All parts so far are names.
abbrev pub invariant-loop-name : goal.invariant-loop-name
invariant-loop-name l = record {
  is_text : shadow (Utf8 l.rest);
  names : list_all is_name (parts l.rest) ≡ list_all is_name (parts l.fn.text);
}

abbrev pub decreases-loop-name : goal.decreases-loop-name
decreases-loop-name l = length l.rest
