use Rattle.std.proofs.Common.{◌≡◌, ◌∷◌, ◌-◌, List, drop, length}
use Rattle.source_report.specs.declared.report.Finding.{Finding}
use Rattle.file_fixes.specs.FaultSearch.{are_found}
use Rattle.file_fixes.proofs.fault_search.index_after.Given as goal

-- From here on the fault is found where it is found from the start.
abbrev pub invariant-loop-fault : goal.invariant-loop-fault
invariant-loop-fault l = (xs : List Finding)
    → are_found (l.finding ∷ xs) (drop l.fn.from l.faults)
    ≡ are_found (l.finding ∷ xs) (drop l.index l.faults)

abbrev pub decreases-loop-fault : goal.decreases-loop-fault
decreases-loop-fault l = length l.faults - l.index
