use Rattle.std.proofs.Common.{◌≡◌, ◌++◌, chars, drop, map}
use denote.Text.{Utf8}
use denote.Shadow.{shadow}
use Rattle.format_tokens.specs.Escapes.{cut}
use Rattle.format_tokens.specs.Views.{seen_token}
use Rattle.format_tokens.proofs.escapes.cut.Given as goal

-- The tokens so far and those of what is left are all the tokens.
abbrev pub invariant-loop-token : goal.invariant-loop-token
invariant-loop-token l = record {
  is_text : shadow (Utf8 l.rest);
  whole : map seen_token l.list.items
      ++ cut (chars l.rest) (map seen_token (drop l.token-index l.tokens))
      ≡ cut (chars l.literal) (map seen_token l.tokens);
}
