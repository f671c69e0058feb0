use Rattle.std.proofs.Common.{◌≤◌, ◌<◌, ◌+◌, ◌-◌}
use Rattle.format_calls.proofs.Walking.{SoFar}
use Rattle.format_calls.proofs.split.arguments_between.Given as goal

abbrev pub invariant-loop-start : goal.invariant-loop-start
invariant-loop-start l = record {
  so_far : SoFar l.source (l.opening + 1) l.arguments.items l.start l.close;
  rest_after : l.opening < l.start;
  within : l.start ≤ l.close;
}

abbrev pub decreases-loop-start : goal.decreases-loop-start
decreases-loop-start l = l.close - l.start
