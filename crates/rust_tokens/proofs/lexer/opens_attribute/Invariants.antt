use denote.Shadow.{shadow}
use denote.Text.{Utf8}
use Rattle.std.proofs.Common.{chars, length}
use Rattle.rust_tokens.proofs.Files.{Passed}
use Rattle.rust_tokens.proofs.lexer.opens_attribute.Given as goal

abbrev pub invariant-loop-step : goal.invariant-loop-step
invariant-loop-step l = record {
  passed : Passed (chars l.text) (chars l.rest);
  utf8 : shadow (Utf8 l.rest);
}

abbrev pub decreases-loop-step : goal.decreases-loop-step
decreases-loop-step l = length l.rest
