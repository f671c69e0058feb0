use Rattle.std.proofs.Common.{◌≡◌, drop, map}
use Rattle.std.specs.List.{list_any}
use Rattle.rustc_parse_format.specs.Views.{seen_piece}
use Rattle.call_faults.specs.Directives.{holds_directive}
use Rattle.call_faults.proofs.directives.hold_directives.Given as goal

-- The answer for what is left is the answer for all.
abbrev pub invariant-loop-piece : goal.invariant-loop-piece
invariant-loop-piece l = list_any holds_directive (map seen_piece (drop l.piece-index l.pieces))
    ≡ list_any holds_directive (map seen_piece l.pieces)
