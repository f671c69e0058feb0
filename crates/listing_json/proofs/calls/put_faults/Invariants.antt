use Rattle.std.proofs.Common.{drop, map}
use Rattle.rustc_parse_format.specs.FaultViews.{seen_fault}
use Rattle.listing_json.specs.Values.{fault_value}
use Rattle.listing_json.proofs.Adding.{Owes}
use Rattle.listing_json.proofs.calls.put_faults.Given as goal

abbrev pub invariant-loop-fault : goal.invariant-loop-fault
invariant-loop-fault l = Owes (map fault_value (map seen_fault (drop l.fault-index l.faults)))
    (map fault_value (map seen_fault l.faults)) l.fn.out.items l.out.items
