use Rattle.std.proofs.Common.{◌-◌, ◌≤◌}
use Rattle.macro_owners.proofs.ArmLists.{ArmsSoFar}
use Rattle.macro_owners.proofs.arms.rule_of_arms.Given as goal

abbrev pub invariant-loop-from : goal.invariant-loop-from
invariant-loop-from l = record {
  so_far : ArmsSoFar l.calls l.source l.opening l.close l.found l.from;
  within : l.from ≤ l.close;
}

abbrev pub decreases-loop-from : goal.decreases-loop-from
decreases-loop-from l = l.close - l.from
