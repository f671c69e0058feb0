use Rattle.std.proofs.Common.{◌≡◌, map, take}
use Rattle.std.specs.Prelude.{is_some}
use Rattle.std.specs.List.{list_any}
use Rattle.rustc_parse_format.specs.Characters.{Text}
use Rattle.call_faults.specs.Comparison.{is_position}
use Rattle.call_faults.specs.Views.{found_in, seen_lookup}
use Rattle.call_faults.proofs.comparison.positions_of.Given as goal

abbrev pub invariant-loop-lookup : goal.invariant-loop-lookup
invariant-loop-lookup l = (w : Text) → is_some (found_in l.names w)
    ≡ list_any (is_position w) (map seen_lookup (take l.lookup-index l.lookups))
