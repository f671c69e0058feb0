use Rattle.std.proofs.Common.{◌≡◌, map, take}
use Rattle.call_faults.specs.Comparison.{indices}
use Rattle.call_faults.specs.Views.{seen_entry}
use Rattle.call_faults.proofs.comparison.indices_of.Given as goal

abbrev pub invariant-loop-entry : goal.invariant-loop-entry
invariant-loop-entry l = l.indices.items ≡ indices (map seen_entry (take l.entry-index l.arguments))
