use Rattle.std.proofs.Common.{◌≡◌, length}
use Rattle.rust_tokens.specs.RawStrings.{after_raw}
use Rattle.rust_tokens.proofs.ends.after_raw.Given as goal

abbrev pub invariant-loop-byte : goal.invariant-loop-byte
invariant-loop-byte l = after_raw l.hashes l.rest ≡ after_raw l.hashes l.text

abbrev pub decreases-loop-byte : goal.decreases-loop-byte
decreases-loop-byte l = length l.rest
