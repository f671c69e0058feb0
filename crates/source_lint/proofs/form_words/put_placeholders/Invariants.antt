use Rattle.std.proofs.Common.{◌≡◌, ◌++◌, string_bytes}
use Rattle.source_lint.specs.FormWords.{more_placeholders}
use Rattle.source_lint.proofs.form_words.put_placeholders.Given as goal

-- The text so far, and then the rest of it, is all.
abbrev pub invariant-loop-countdown : goal.invariant-loop-countdown
invariant-loop-countdown l = string_bytes l.out ++ more_placeholders l.countdown
    ≡ string_bytes l.fn.out ++ more_placeholders l.count

abbrev pub decreases-loop-countdown : goal.decreases-loop-countdown
decreases-loop-countdown l = l.countdown
