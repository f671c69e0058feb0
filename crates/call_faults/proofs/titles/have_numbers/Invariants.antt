use Rattle.std.proofs.Common.{◌≡◌, false, map, take}
use Rattle.std.specs.List.{list_any}
use Rattle.rustc_parse_format.specs.Views.{seen_piece}
use Rattle.call_faults.specs.Words.{has_number}
use Rattle.call_faults.proofs.titles.have_numbers.Given as goal

-- None of the pieces so far has a number.
abbrev pub invariant-loop-piece : goal.invariant-loop-piece
invariant-loop-piece l = list_any has_number (map seen_piece (take l.piece-index l.pieces)) ≡ false
