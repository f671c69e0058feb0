use Rattle.std.proofs.Common.{◌≡◌, ◌≤◌, ◌+◌, length, map}
use Rattle.rust_trees.specs.Leaves.{leaf}
use Rattle.format_calls.specs.Searches.{AreLastFrom, IsLast}
use Rattle.format_calls.proofs.part.last_targets.Given as goal

abbrev pub invariant-loop-index : goal.invariant-loop-index
invariant-loop-index l = record {
  each : AreLastFrom l.target (map leaf l.tokens) 0 l.counts.items;
  count : length l.counts.items ≡ l.index + 1;
  is_last : IsLast l.target (map leaf l.tokens) l.index l.last;
  within : l.last ≤ l.index;
}
