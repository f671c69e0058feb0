use Rattle.std.proofs.Common.{◌≡◌, ◌++◌, drop, map}
use Rattle.rustc_parse_format.specs.Views.{seen_piece}
use Rattle.message_faults.specs.Messages.{faults_of}
use Rattle.message_faults.specs.Views.{known_names, seen_fault}
use Rattle.message_faults.proofs.checker.push_pieces.Given as goal

-- The faults so far, and then those of the pieces that are left, are all.
abbrev pub invariant-loop-piece : goal.invariant-loop-piece
invariant-loop-piece l = map seen_fault l.faults.items
    ++ faults_of (known_names l.names) l.is_known (map seen_piece (drop l.piece-index l.pieces))
    ≡ map seen_fault l.fn.faults.items
    ++ faults_of (known_names l.names) l.is_known (map seen_piece l.pieces)
