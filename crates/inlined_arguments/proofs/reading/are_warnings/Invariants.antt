use Rattle.std.proofs.Common.{◌≡◌, drop, map}
use Rattle.std.specs.List.{list_all}
use Rattle.call_faults.specs.CallFaults.{is_warning}
use Rattle.call_faults.specs.Views.{seen_fault}
use Rattle.inlined_arguments.proofs.reading.are_warnings.Given as goal

-- The answer for what is left is the answer for all.
abbrev pub invariant-loop-fault : goal.invariant-loop-fault
invariant-loop-fault l = list_all is_warning (map seen_fault (drop l.fault-index l.faults))
    ≡ list_all is_warning (map seen_fault l.faults)
