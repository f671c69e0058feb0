use Rattle.std.proofs.Common.{◌≤◌, ◌<◌, ◌-◌}
use Rattle.format_calls.proofs.Counting.{Passed}
use Rattle.format_calls.proofs.extents.extent_of.Given as goal

abbrev pub invariant-loop-end : goal.invariant-loop-end
invariant-loop-end l = record {
  passed : Passed l.ends_early l.source l.from l.end l.has_uncounted;
  rest_after : l.opening < l.end;
  onward : l.from ≤ l.end;
  within : l.end ≤ l.close;
}

abbrev pub decreases-loop-end : goal.decreases-loop-end
decreases-loop-end l = l.close - l.end
