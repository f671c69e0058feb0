use Rattle.std.proofs.Common.{◌≡◌, drop, map}
use Rattle.std.specs.List.{list_any}
use Rattle.rustc_parse_format.specs.Views.{seen_piece}
use Rattle.call_faults.specs.Notes.{has_star}
use Rattle.call_faults.proofs.notes.have_stars.Given as goal

-- The answer for what is left is the answer for all.
abbrev pub invariant-loop-piece : goal.invariant-loop-piece
invariant-loop-piece l = list_any has_star (map seen_piece (drop l.piece-index l.pieces))
    ≡ list_any has_star (map seen_piece l.pieces)
