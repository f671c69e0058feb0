use Rattle.std.proofs.Common.{◌≡◌, ◌+◌, ◌≤◌, length}
use Rattle.std.specs.Prelude.{decimal}
use Rattle.drawn_lines.proofs.frame.digits.Given as goal

-- The digits that are counted and those of what is left are all the digits, and one.
abbrev pub invariant-loop-rest : goal.invariant-loop-rest
invariant-loop-rest l = record {
  whole : l.count + length (decimal l.rest) ≡ length (decimal l.fn.number) + 1;
  few : l.count + l.rest ≤ l.fn.number + 1;
}

abbrev pub decreases-loop-rest : goal.decreases-loop-rest
decreases-loop-rest l = l.rest
