use Rattle.std.proofs.Common.{◌≡◌, ◌+◌, drop, map}
use Rattle.call_faults.specs.Notes.{unnamed_count}
use Rattle.call_faults.specs.Views.{seen_given}
use Rattle.call_faults.proofs.helps.unnamed_count.Given as goal

-- Those so far, and then those of what is left, are all.
abbrev pub invariant-loop-index : goal.invariant-loop-index
invariant-loop-index l = l.index + unnamed_count (map seen_given (drop l.index l.arguments))
    ≡ unnamed_count (map seen_given l.arguments)
