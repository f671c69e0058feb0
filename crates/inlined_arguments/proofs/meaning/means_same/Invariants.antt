use Rattle.std.proofs.Common.{◌≡◌, map, take}
use Rattle.rustc_parse_format.specs.Views.{seen_piece}
use Rattle.inlined_arguments.specs.Meaning.{meaning}
use Rattle.inlined_arguments.specs.Views.{Knows, seen_slots}
use Rattle.inlined_arguments.proofs.meaning.means_same.Given as goal

-- The pieces so far mean the same.
abbrev pub invariant-loop-index : goal.invariant-loop-index
invariant-loop-index l = Knows l.left.values.now → Knows l.right.values.now
    → meaning (seen_slots l.left.values.now) (map seen_piece (take l.index l.left.pieces.now))
    ≡ meaning (seen_slots l.right.values.now) (map seen_piece (take l.index l.right.pieces.now))
