use Rattle.std.proofs.Common.{◌≡◌, false, filter, get_or, map, not, take}
use Rattle.call_faults.specs.Views.{seen_entry}
use Rattle.call_faults.proofs.comparison.unmarked_arguments.Given as goal

abbrev pub invariant-loop-entry : goal.invariant-loop-entry
invariant-loop-entry l = map seen_entry l.list.items
    ≡ filter (λ k. not (get_or l.marks k.index false)) (map seen_entry (take l.entry-index
    l.arguments))
