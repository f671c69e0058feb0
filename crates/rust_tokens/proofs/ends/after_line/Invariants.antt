use Rattle.std.proofs.Common.{◌≡◌, length}
use Rattle.rust_tokens.specs.Runs.{rest_after, is_in_line}
use Rattle.rust_tokens.proofs.ends.after_line.Given as goal

abbrev pub invariant-loop-byte : goal.invariant-loop-byte
invariant-loop-byte l = rest_after is_in_line l.rest ≡ rest_after is_in_line l.text

abbrev pub decreases-loop-byte : goal.decreases-loop-byte
decreases-loop-byte l = length l.rest
