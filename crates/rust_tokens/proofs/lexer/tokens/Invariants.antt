use denote.Shadow.{shadow}
use denote.Text.{Utf8}
use Rattle.std.proofs.Common.{length}
use Rattle.rust_tokens.proofs.Files.{Lexed}
use Rattle.rust_tokens.proofs.lexer.tokens.Given as goal

abbrev pub invariant-loop-step : goal.invariant-loop-step
invariant-loop-step l = record {
  lexed : Lexed l.text l.list.items l.rest;
  utf8 : shadow (Utf8 l.rest);
}

abbrev pub decreases-loop-step : goal.decreases-loop-step
decreases-loop-step l = length l.rest
