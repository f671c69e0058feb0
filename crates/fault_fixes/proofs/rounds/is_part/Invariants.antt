use Rattle.std.proofs.Common.{◌≡◌, ◌≤◌, drop, length, map}
use Rattle.rustc_parse_format.specs.FaultIds.{fault_id}
use Rattle.rustc_parse_format.specs.FaultViews.{seen_fault}
use Rattle.fault_fixes.specs.Rounds.{is_part}
use Rattle.fault_fixes.proofs.rounds.is_part.Given as goal

-- The rest of the one list has to be a part of the rest of the other one.
abbrev pub invariant-loop-fault : goal.invariant-loop-fault
invariant-loop-fault l = record {
  same : is_part (drop l.count (map fault_id (map seen_fault l.fn.part)))
      (drop l.fault-index (map fault_id (map seen_fault l.fn.all_faults)))
      ≡ is_part (map fault_id (map seen_fault l.fn.part))
      (map fault_id (map seen_fault l.fn.all_faults));
  within : l.count ≤ length l.fn.part;
}
