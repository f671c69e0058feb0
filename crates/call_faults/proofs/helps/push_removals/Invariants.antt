use Rattle.std.proofs.Common.{◌≡◌, ◌++◌, length, map}
use Rattle.call_faults.specs.Notes.{removal}
use Rattle.call_faults.specs.Views.{seen_edit, seen_given}
use Rattle.call_faults.proofs.helps.push_removals.Given as goal

-- What is added, and then the edits of what is left, is all.
abbrev pub invariant-loop-index : goal.invariant-loop-index
invariant-loop-index l = map seen_edit l.edits.items
    ++ map (removal (map seen_given l.arguments)) l.rest
    ≡ map seen_edit l.fn.edits.items ++ map (removal (map seen_given l.arguments)) l.indices

abbrev pub decreases-loop-index : goal.decreases-loop-index
decreases-loop-index l = length l.rest
