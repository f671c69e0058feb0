use Rattle.std.proofs.Common.{◌≡◌, ◌≤◌, ◌-◌, drop, length}
use Rattle.unified_diff.specs.Rows.{joined_text}
use Rattle.unified_diff.proofs.rows.common_end.Given as goal

abbrev pub invariant-loop-count : goal.invariant-loop-count
invariant-loop-count l = record {
  old : l.count ≤ length l.old;
  new : l.count ≤ length l.new;
  same : joined_text (drop (length l.old - l.count) l.old)
      ≡ joined_text (drop (length l.new - l.count) l.new);
}

abbrev pub decreases-loop-count : goal.decreases-loop-count
decreases-loop-count l = length l.old - l.count
