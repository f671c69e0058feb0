use Rattle.std.proofs.Common.{◌≡◌, map, take}
use Rattle.std.specs.List.{filter_map}
use Rattle.call_faults.specs.Comparison.{invalid_reference}
use Rattle.call_faults.specs.Views.{seen_lookup}
use Rattle.call_faults.proofs.comparison.references_from.Given as goal

abbrev pub invariant-loop-lookup : goal.invariant-loop-lookup
invariant-loop-lookup l = l.references.items
    ≡ filter_map (invalid_reference l.count) (map seen_lookup (take l.lookup-index l.lookups))
