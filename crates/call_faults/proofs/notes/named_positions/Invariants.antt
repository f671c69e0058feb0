use Rattle.std.proofs.Common.{◌≡◌, ◌++◌, drop, is_some, map}
use Rattle.rustc_parse_format.specs.Views.{seen_piece}
use Rattle.call_faults.specs.Notes.{named_positions}
use Rattle.call_faults.specs.Views.{found_in}
use Rattle.call_faults.proofs.notes.named_positions.Given as goal

-- What is added, and then the places of what is left, is all.
abbrev pub invariant-loop-piece : goal.invariant-loop-piece
invariant-loop-piece l = l.spots.items
    ++ named_positions (λ w. is_some (found_in l.names w))
    (map seen_piece (drop l.piece-index l.pieces))
    ≡ named_positions (λ w. is_some (found_in l.names w)) (map seen_piece l.pieces)
