use Rattle.std.proofs.Common.{◌≡◌, ◌++◌, drop, map}
use Rattle.rustc_parse_format.specs.Views.{seen_piece}
use Rattle.inlined_arguments.specs.Edits.{new_edits}
use Rattle.inlined_arguments.specs.Views.{Knows, seen_edit, seen_slots}
use Rattle.inlined_arguments.proofs.edits.edits_of.Given as goal

-- The edits so far, and then those of the pieces that are left, are all.
abbrev pub invariant-loop-piece : goal.invariant-loop-piece
invariant-loop-piece l = Knows l.call.values.now → map seen_edit l.edits.items
    ++ new_edits (seen_slots l.call.values.now) (map seen_piece (drop l.piece-index l.piece-items))
    ≡ new_edits (seen_slots l.call.values.now) (map seen_piece l.call.pieces.now)
