use Rattle.std.proofs.Common.{◌≡◌, ◌+◌, ◌≤◌, length}
use Rattle.rust_tokens.specs.Comments.{after_comment}
use Rattle.rust_tokens.proofs.ends.after_comment.Given as goal

abbrev pub invariant-loop-byte : goal.invariant-loop-byte
invariant-loop-byte l = record {
  same : after_comment l.depth l.previous l.rest ≡ after_comment 0 0 l.text;
  few : l.depth + length l.rest ≤ length l.text;
}

abbrev pub decreases-loop-byte : goal.decreases-loop-byte
decreases-loop-byte l = length l.rest
