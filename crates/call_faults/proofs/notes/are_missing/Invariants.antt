use Rattle.std.proofs.Common.{◌≡◌, drop, map}
use Rattle.std.specs.List.{list_any}
use Rattle.call_faults.specs.Notes.{are_missing}
use Rattle.call_faults.specs.Views.{seen_fault}
use Rattle.call_faults.proofs.notes.are_missing.Given as goal

-- The answer for what is left is the answer for all.
abbrev pub invariant-loop-fault : goal.invariant-loop-fault
invariant-loop-fault l = list_any are_missing (map seen_fault (drop l.fault-index l.faults))
    ≡ list_any are_missing (map seen_fault l.faults)
