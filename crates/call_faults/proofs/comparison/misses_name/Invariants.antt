use Rattle.std.proofs.Common.{◌≡◌, false, map, take}
use Rattle.std.specs.List.{list_any}
use Rattle.call_faults.specs.Comparison.{is_missing_name}
use Rattle.call_faults.specs.Views.{seen_fault}
use Rattle.call_faults.proofs.comparison.misses_name.Given as goal

-- None of the faults so far is a missing name.
abbrev pub invariant-loop-fault : goal.invariant-loop-fault
invariant-loop-fault l = list_any is_missing_name (map seen_fault (take l.fault-index l.faults))
    ≡ false
