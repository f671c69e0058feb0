use Rattle.std.proofs.Common.{◌≡◌, ◌++◌, string_bytes}
use Rattle.call_faults.specs.Notes.{placeholders}
use Rattle.call_faults.proofs.helps.put_placeholders.Given as goal

-- What is added, and then what is left, is all.
abbrev pub invariant-loop-countdown : goal.invariant-loop-countdown
invariant-loop-countdown l = string_bytes l.out ++ placeholders l.countdown
    ≡ string_bytes l.fn.out ++ placeholders l.count

abbrev pub decreases-loop-countdown : goal.decreases-loop-countdown
decreases-loop-countdown l = l.countdown
