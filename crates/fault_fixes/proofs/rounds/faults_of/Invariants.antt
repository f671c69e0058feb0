use Rattle.std.proofs.Common.{◌≡◌, ◌≤◌, ◌+◌, ◌++◌, length, map}
use Rattle.rustc_parse_format.specs.FaultIds.{fault_id}
use Rattle.rustc_parse_format.specs.FaultViews.{seen_fault}
use Rattle.fault_fixes.proofs.RoundLaws.{left_faulty, left_ids}
use Rattle.fault_fixes.proofs.rounds.faults_of.Given as goal

-- The faults found and those of the rest are all faults.
abbrev pub invariant-loop-argument : goal.invariant-loop-argument
invariant-loop-argument l = record {
  ids : map fault_id (map seen_fault l.list.items) ++ left_ids l.parser
      ≡ left_ids l.initial.parser;
  calls : l.calls + left_faulty l.parser ≡ left_faulty l.initial.parser;
  few : l.calls ≤ length l.list.items;
}

abbrev pub decreases-loop-argument : goal.decreases-loop-argument
decreases-loop-argument l = length l.parser.rest
