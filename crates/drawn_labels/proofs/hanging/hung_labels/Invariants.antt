use Rattle.std.proofs.Common.{◌≡◌, ◌*◌, ◌++◌, ◌≤◌, drop, length, map}
use Rattle.drawn_labels.specs.Marks.{hung_labels, seen_hung}
use Rattle.drawn_labels.specs.Rows.{seen_mark}
use Rattle.drawn_labels.proofs.hanging.hung_labels.Given as goal

-- The labels so far, and then those that are left, are all.
abbrev pub invariant-loop-mark : goal.invariant-loop-mark
invariant-loop-mark l = record {
  count : length l.list.items ≡ l.mark-index;
  same : map seen_hung l.list.items ++ hung_labels l.least_depth
      (map seen_mark (drop l.mark-index l.marks))
      ≡ hung_labels 0 (map seen_mark l.marks);
  near : l.least_depth ≤ 2 * l.mark-index;
}
