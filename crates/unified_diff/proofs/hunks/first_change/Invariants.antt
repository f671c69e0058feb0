use Rattle.std.proofs.Common.{◌≡◌, take, true}
use Rattle.unified_diff.specs.Diffs.{are_shared}
use Rattle.unified_diff.proofs.hunks.first_change.Given as goal

abbrev pub invariant-loop-index : goal.invariant-loop-index
invariant-loop-index l = are_shared (take l.index l.rows) ≡ true
