use Rattle.std.proofs.Common.{◌≡◌, ◌++◌, map, drop}
use Rattle.rustc_parse_format.specs.Views.{seen_piece}
use Rattle.call_faults.specs.Lookups.{lookups_from}
use Rattle.call_faults.specs.Views.{seen_lookup}
use Rattle.call_faults.proofs.lookups.lookups_of.Given as goal

-- What is in the list, and then what is looked up for the pieces that are left, is all.
abbrev pub invariant-loop-index : goal.invariant-loop-index
invariant-loop-index l = map seen_lookup l.list.items
    ++ lookups_from l.index (map seen_piece (drop l.index l.pieces))
    ≡ lookups_from 0 (map seen_piece l.pieces)
