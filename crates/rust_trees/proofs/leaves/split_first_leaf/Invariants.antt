use denote.Shadow.{shadow}
use denote.Text.{Utf8}
use Rattle.std.proofs.Common.{◌≤◌, List, length}
use Rattle.rust_trees.specs.Leaves.{AreLeft, Leaf}
use Rattle.rust_trees.proofs.leaves.split_first_leaf.Given as goal

abbrev pub invariant-loop-token : goal.invariant-loop-token
invariant-loop-token l = record {
  left : (ls : List Leaf) → AreLeft (record { whole = l.text; rest = l.tail }) ls
      → AreLeft (record { whole = l.text; rest = l.rest }) ls;
  within : length l.tail ≤ length l.rest;
  utf8 : shadow (Utf8 l.tail);
}

abbrev pub decreases-loop-token : goal.decreases-loop-token
decreases-loop-token l = length l.tail
