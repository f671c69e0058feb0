use Rattle.std.proofs.Common.{◌≡◌, filter, map, take}
use Rattle.call_faults.specs.Comparison.{indices, is_redundant}
use Rattle.call_faults.specs.Views.{seen_entry, seen_lookup}
use Rattle.call_faults.proofs.comparison.redundant_of.Given as goal

abbrev pub invariant-loop-entry : goal.invariant-loop-entry
invariant-loop-entry l = l.redundant_indices.items ≡ indices
    (filter (is_redundant (map seen_lookup l.lookups)) (map seen_entry (take l.entry-index
    l.unused_entries)))
