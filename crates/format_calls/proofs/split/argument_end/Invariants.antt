use Rattle.std.proofs.Common.{◌≤◌, ◌-◌, ℕ, List, false}
use Rattle.format_calls.specs.declared.modes.Mode.TheVariants.{Start}
use Rattle.format_calls.specs.Arguments.{Walks}
use Rattle.format_calls.specs.Modes.{depth_of}
use Rattle.format_calls.proofs.split.argument_end.Given as goal

abbrev pub invariant-loop-end : goal.invariant-loop-end
invariant-loop-end l = record {
  walks : (js : List ℕ) × Walks l.source l.from (Start false) js l.end l.mode;
  rest_after : l.from ≤ l.end;
  within : l.end ≤ l.to;
  depth : depth_of l.mode ≤ l.end;
}

abbrev pub decreases-loop-end : goal.decreases-loop-end
decreases-loop-end l = l.to - l.end
