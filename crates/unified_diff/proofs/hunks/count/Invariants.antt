use Rattle.std.proofs.Common.{◌≡◌, ◌≤◌, ◌+◌, drop}
use Rattle.unified_diff.specs.Diffs.{new_count, old_count}
use Rattle.unified_diff.proofs.hunks.count.Given as goal

abbrev pub invariant-loop-row : goal.invariant-loop-row
invariant-loop-row l = record {
  old_small : l.numbers.old ≤ l.row-index;
  new_small : l.numbers.new ≤ l.row-index;
  old : l.numbers.old + old_count (drop l.row-index l.rows) ≡ old_count l.rows;
  new : l.numbers.new + new_count (drop l.row-index l.rows) ≡ new_count l.rows;
}
