use Rattle.std.proofs.Common.{◌≡◌, [], map, take}
use Rattle.rustc_parse_format.specs.Views.{seen_piece}
use Rattle.placeholder_check.specs.Uses.{uses}
use Rattle.placeholder_check.specs.Collection.{Holds, IsNew}
use Rattle.placeholder_check.proofs.uses.uses_of.Given as goal

-- The uses of the pieces so far have been collected. Without pieces there are none.
abbrev pub invariant-loop-piece : goal.invariant-loop-piece
invariant-loop-piece l = record {
  held : Holds (uses (map seen_piece (take l.piece-index l.pieces))) l.uses;
  none : l.pieces ≡ [] → IsNew l.uses;
}
