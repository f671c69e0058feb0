use Rattle.std.proofs.Common.{◌≡◌, ◌≤◌, ◌++◌, drop, map}
use Rattle.rustc_parse_format.specs.Views.{seen_piece}
use Rattle.call_faults.specs.Spots.{counts_before}
use Rattle.call_faults.proofs.spots.counts_before.Given as goal

-- Those so far, and then those of what is left, are all. There are at most as many placeholders as
-- pieces.
abbrev pub invariant-loop-piece : goal.invariant-loop-piece
invariant-loop-piece l = record {
  all : l.counts.items ++ counts_before l.count (map seen_piece (drop l.piece-index l.pieces))
      ≡ counts_before 0 (map seen_piece l.pieces);
  small : l.count ≤ l.piece-index;
}
