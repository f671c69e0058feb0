use Rattle.std.proofs.Common.{◌≡◌, ◌||◌, []}
use Rattle.listing_json.specs.Lines.{calls_values, has_faults}
use Rattle.listing_json.proofs.Adding.{Owes}
use Rattle.listing_json.proofs.Walking.{left, turns}
use Rattle.rustc_parse_format.specs.State.{calls}
use Rattle.listing_json.proofs.calls.put_calls.Given as goal

-- The lines and the faults so far and those of the calls that are left are all.
abbrev pub invariant-loop-has_piece : goal.invariant-loop-has_piece
invariant-loop-has_piece l = record {
  lines : Owes (calls_values l.parser.world (left l.has_piece l.parser))
      (calls_values l.fn.parser.world (calls l.fn.parser)) l.fn.out.items l.out.items;
  world : l.parser.world ≡ l.fn.parser.world;
  some : (l.has_faults || has_faults (left l.has_piece l.parser)) ≡ has_faults (calls l.fn.parser);
  none : l.faults.items ≡ [];
}

abbrev pub decreases-loop-has_piece : goal.decreases-loop-has_piece
decreases-loop-has_piece l = turns l.has_piece l.parser
