use Rattle.std.proofs.Common.{◌≡◌, length, false}
use Rattle.rust_tokens.specs.Strings.{after_string}
use Rattle.rust_tokens.proofs.ends.after_string.Given as goal

abbrev pub invariant-loop-byte : goal.invariant-loop-byte
invariant-loop-byte l = after_string l.is_escaped l.rest ≡ after_string false l.text

abbrev pub decreases-loop-byte : goal.decreases-loop-byte
decreases-loop-byte l = length l.rest
