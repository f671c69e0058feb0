use denote.Shadow.{shadow}
use denote.Text.{Utf8}
use Rattle.std.proofs.Common.{◌≡◌, length, chars}
use Rattle.rust_tokens.specs.Runs.{rest_after}
use Rattle.rust_tokens.specs.Classes.{passes}
use Rattle.rust_tokens.proofs.texts.after_wide_run.Given as goal

abbrev pub invariant-loop-c : goal.invariant-loop-c
invariant-loop-c l = record {
  same : rest_after (passes l.class) (chars l.rest) ≡ rest_after (passes l.class) (chars l.text);
  utf8 : shadow (Utf8 l.rest);
}

abbrev pub decreases-loop-c : goal.decreases-loop-c
decreases-loop-c l = length l.rest
