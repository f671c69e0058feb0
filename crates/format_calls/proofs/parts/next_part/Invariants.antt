use Rattle.std.proofs.Common.{◌≡◌, ◌≤◌, ◌++◌, List, length, map}
use Rattle.rust_trees.specs.Balances.{IsBalanced}
use Rattle.rust_trees.specs.Leaves.{AreLeft, Leaf}
use Rattle.format_calls.specs.Gaps.{LacksFronts}
use Rattle.format_calls.specs.Parts.{seen_window}
use Rattle.format_calls.specs.Rows.{entry}
use Rattle.format_calls.proofs.Parting.{IsGap, window}
use Rattle.format_calls.proofs.Windows.{unplaced_window}
use Rattle.format_calls.proofs.parts.next_part.Given as goal

abbrev pub invariant-loop-token : goal.invariant-loop-token
invariant-loop-token l = record {
  file : l.rest.whole ≡ l.initial.rest.whole;
  fewer : length l.rest.rest ≤ length l.initial.rest.rest;
  gap : (gap : List Leaf) × IsGap (map entry l.table.rows.items) gap (seen_window l.last)
      × ((left : List Leaf) → AreLeft l.rest left → AreLeft l.initial.rest
      (gap ++ (window (seen_window l.last).name (seen_window l.last).bang ++ left)))
      × ((w : List Leaf) → IsBalanced w l.initial.balance → IsBalanced
      (w ++ (gap ++ window (seen_window l.last).name (seen_window l.last).bang)) l.balance)
      × LacksFronts (map entry l.table.rows.items)
      (gap ++ window (seen_window l.last).name (seen_window l.last).bang)
      (unplaced_window (seen_window l.last));
}

abbrev pub decreases-loop-token : goal.decreases-loop-token
decreases-loop-token l = length l.rest.rest
