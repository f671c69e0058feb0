use Rattle.std.proofs.Common.{◌≡◌, ◌≤◌, [], length}
use Rattle.fault_fixes.specs.Fixing.{all_errors}
use Rattle.fault_fixes.specs.SeenEdits.{seen_errors}
use Rattle.fault_fixes.proofs.errors.errors_of.Given as goal

-- A parser with the errors so far comes to the errors of all calls, and no more is left.
abbrev pub invariant-loop-argument : goal.invariant-loop-argument
invariant-loop-argument l = record {
  none : l.parser.errors ≡ [];
  added : l.faults.items ≡ [];
  same : all_errors (record l.parser { errors = seen_errors l.errors })
      ≡ all_errors l.initial.parser;
  less : length l.parser.rest ≤ length l.initial.parser.rest;
}

abbrev pub decreases-loop-argument : goal.decreases-loop-argument
decreases-loop-argument l = length l.parser.rest
