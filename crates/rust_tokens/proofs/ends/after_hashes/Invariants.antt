use Rattle.std.proofs.Common.{◌≡◌}
use Rattle.rust_tokens.specs.RawStrings.{after_hashes}
use Rattle.rust_tokens.proofs.ends.after_hashes.Given as goal

abbrev pub invariant-loop-countdown : goal.invariant-loop-countdown
invariant-loop-countdown l = after_hashes l.countdown l.rest ≡ after_hashes l.hashes l.bytes

abbrev pub decreases-loop-countdown : goal.decreases-loop-countdown
decreases-loop-countdown l = l.countdown
