use denote.Shadow.{shadow}
use denote.Text.{Utf8}
use Rattle.std.proofs.Common.{◌≡◌, ◌+◌, ◌≤◌, length, chars}
use Rattle.rust_tokens.specs.Runs.{count, is_hash}
use Rattle.rust_tokens.proofs.texts.count_hashes.Given as goal

abbrev pub invariant-loop-c : goal.invariant-loop-c
invariant-loop-c l = record {
  same : l.hashes + count is_hash (chars l.rest) ≡ count is_hash (chars l.text);
  few : l.hashes + length l.rest ≤ length l.text;
  utf8 : shadow (Utf8 l.rest);
}

abbrev pub decreases-loop-c : goal.decreases-loop-c
decreases-loop-c l = length l.rest
