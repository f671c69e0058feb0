use Rattle.std.proofs.Common.{◌≡◌, ◌++◌, [], length, map}
use Rattle.rustc_parse_format.specs.Views.{seen_piece}
use Rattle.rustc_parse_format.specs.State.{calls, after_all}
use Rattle.rustc_parse_format.specs.Call.{pieces_of}
use Rattle.rustc_parse_format.specs.World.{pieces_in}
use Rattle.rustc_parse_format.proofs.reading.read_pieces.Given as goal

abbrev pub invariant-loop-pieces : goal.invariant-loop-pieces
invariant-loop-pieces l = record {
  world : l.parser.world ≡ l.fn.parser.world;
  pieces : map seen_piece l.pieces.items ++ pieces_in l.fn.parser.world (pieces_of (calls l.parser))
      ≡ pieces_in l.fn.parser.world (pieces_of (calls l.fn.parser));
  empty : l.fn.parser.rest ≡ [] → l.parser.rest ≡ [];
  state : after_all l.parser (calls l.parser) ≡ after_all l.fn.parser (calls l.fn.parser);
}

abbrev pub decreases-loop-pieces : goal.decreases-loop-pieces
decreases-loop-pieces l = length l.parser.rest
