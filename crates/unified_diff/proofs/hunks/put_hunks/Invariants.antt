use Rattle.std.proofs.Common.{length, string_bytes}
use Rattle.unified_diff.proofs.Parts.{SoFar}
use Rattle.unified_diff.proofs.hunks.put_hunks.Given as goal

abbrev pub invariant-loop-change : goal.invariant-loop-change
invariant-loop-change l = SoFar l.fn.rows l.rest l.numbers.old l.numbers.new (string_bytes l.fn.out)
    (string_bytes l.out)

abbrev pub decreases-loop-change : goal.decreases-loop-change
decreases-loop-change l = length l.rest
