use Rattle.std.proofs.Common.{◌≡◌, drop, map}
use Rattle.rustc_parse_format.specs.Faults.{add_errors}
use Rattle.rustc_parse_format.specs.FaultViews.{seen_fault}
use Rattle.fault_fixes.specs.SeenEdits.{seen_errors}
use Rattle.fault_fixes.proofs.errors.add_each.Given as goal

-- With the faults that are left the errors become what they do with all.
abbrev pub invariant-loop-fault : goal.invariant-loop-fault
invariant-loop-fault l =
    add_errors (seen_errors l.errors) (map seen_fault (drop l.fault-index l.faults))
    ≡ add_errors (seen_errors l.fn.errors) (map seen_fault l.faults)
