use Rattle.std.proofs.Common.{◌≡◌, ◌++◌, map, take}
use Rattle.std.specs.List.{filter_map}
use Rattle.call_faults.specs.Comparison.{by_index}
use Rattle.call_faults.specs.Views.{seen_fault, seen_entry, seen_lookup}
use Rattle.call_faults.proofs.comparison.push_index_faults.Given as goal

abbrev pub invariant-loop-lookup : goal.invariant-loop-lookup
invariant-loop-lookup l = map seen_fault l.faults.items ≡ map seen_fault l.fn.faults.items
    ++ filter_map (by_index (map seen_entry l.arguments))
    (map seen_lookup (take l.lookup-index l.lookups))
