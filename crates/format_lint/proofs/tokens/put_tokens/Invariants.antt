use Rattle.std.proofs.Common.{◌≡◌, ◌++◌, IsTrue, chars, drop, map, string_bytes, true}
use denote.Text.{Utf8}
use denote.Shadow.{shadow}
use Rattle.std.specs.List.{list_all}
use Rattle.format_tokens.specs.Views.{seen_token}
use Rattle.format_lint.specs.Colours.{shown_tokens, stays_as_is}
use Rattle.format_lint.proofs.tokens.put_tokens.Given as goal

-- The tokens so far and those of the rest are all the tokens.
abbrev pub invariant-loop-token : goal.invariant-loop-token
invariant-loop-token l = record {
  is_text : shadow (Utf8 l.rest);
  is_as_is : IsTrue l.is_plain → list_all (stays_as_is l.colours) l.rest ≡ true;
  whole : string_bytes l.out
      ++ shown_tokens l.colours (chars l.rest) (map seen_token (drop l.token-index l.tokens))
      ≡ string_bytes l.fn.out
      ++ shown_tokens l.colours (chars l.fn.text) (map seen_token l.tokens);
}
