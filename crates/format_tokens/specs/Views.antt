-- A token and a text as a contract sees them.
use denote.Ref.{Bor}
use Rattle.std.specs.Prelude.{ℕ, List, Option, option_map, chars}
use Rattle.rustc_parse_format.specs.Characters.{Text}
use Rattle.format_tokens.specs.declared.kinds.Token.{Token}
use Rattle.format_tokens.specs.Escapes.{Placed}
use Rattle.rustc_parse_format.specs.Views.{pair}

-- A token as a contract sees it.
abbrev pub seen_token : Token → Placed
seen_token t = (t.kind, pair t.span)

-- A text that may be absent, as a contract sees it.
abbrev pub seen_text : Option (Bor (List ℕ)) → Option Text
seen_text snippet = option_map (λ s. chars s.now) snippet
