use Rattle.std.proofs.Common.{◌≡◌, ◌≤◌, ◌++◌, drop, length, map}
use Rattle.rustc_parse_format.specs.Views.{pair, seen_piece}
use Rattle.asm_faults.specs.Lookups.{next_after_pieces, piece_lookups}
use Rattle.asm_faults.specs.Views.{seen_lookup}
use Rattle.asm_faults.proofs.lookups.push_pieces.Given as goal

-- What is in the list, and then what is looked up for the pieces that are left, is all.
abbrev pub invariant-loop-piece : goal.invariant-loop-piece
invariant-loop-piece l = record {
  lookups : map seen_lookup l.walk.lookups.items ++ piece_lookups l.template l.walk.next
      (map pair l.places) (map seen_piece (drop l.piece-index l.pieces))
      ≡ map seen_lookup l.fn.walk.lookups.items
      ++ piece_lookups l.template l.fn.walk.next (map pair l.fn.places) (map seen_piece l.pieces);
  next : next_after_pieces l.walk.next (map seen_piece (drop l.piece-index l.pieces))
      ≡ next_after_pieces l.fn.walk.next (map seen_piece l.pieces);
  few : l.walk.next ≤ length l.walk.lookups.items;
}
