use Rattle.std.proofs.Common.{◌≡◌, ◌++◌, [], flat_map, IsTrue, length, List, string_bytes}
use Rattle.rustc_parse_format.specs.Call.{pieces_of}
use Rattle.rustc_parse_format.specs.State.{after_all, calls}
use Rattle.rustc_parse_format.specs.Types.{Piece}
use Rattle.rustc_parse_format.specs.World.{Place, pieces_in}
use Rattle.placeholder_check.specs.Collection.{Holds}
use Rattle.placeholder_check.specs.Uses.{Use, uses}
use Rattle.piece_listing.specs.Listing.{piece_line}
use Rattle.piece_listing.proofs.calls.put_calls.Given as goal

-- The lines and the uses of some pieces have been added, and these with the ones that follow are
-- all.
abbrev pub invariant-loop-piece : goal.invariant-loop-piece
invariant-loop-piece l = record {
  done : List (Piece Place);
  world : l.parser.world ≡ l.fn.parser.world;
  pieces : done ++ pieces_in l.fn.parser.world (pieces_of (calls l.parser))
      ≡ pieces_in l.fn.parser.world (pieces_of (calls l.fn.parser));
  lines : string_bytes l.out ≡ string_bytes l.fn.out ++ flat_map piece_line done;
  held : IsTrue l.compares_arguments → (us : List Use) → Holds us l.fn.all_uses
      → Holds (us ++ uses done) l.all_uses;
  empty : l.fn.parser.rest ≡ [] → l.parser.rest ≡ [];
  state : after_all l.parser (calls l.parser) ≡ after_all l.fn.parser (calls l.fn.parser);
}

abbrev pub decreases-loop-piece : goal.decreases-loop-piece
decreases-loop-piece l = length l.parser.rest
