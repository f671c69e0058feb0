-- The byte ranges of the tokens of a text.
use Rattle.std.specs.Prelude.{ℕ, true, ◌+◌, List, [], ◌∷◌, nat_lt, if◌then◌else◌}
use Rattle.std.specs.Char.{len_utf8}
use Rattle.rust_tokens.specs.declared.kinds.Kind.{Kind}
use Rattle.rust_tokens.specs.declared.kinds.Token.{Token}
use Rattle.rust_tokens.specs.Texts.{Text}
use Rattle.rust_tokens.specs.Tokens.{Lexeme}

-- The length of a text in UTF-8, in bytes.
abbrev pub byte_length : Text → ℕ
byte_length [] = 0
byte_length (c ∷ t) = len_utf8 c + byte_length t

-- The end of the token that begins at this offset.
abbrev pub end_of : ℕ → Lexeme → ℕ
end_of at x = at + byte_length x.body + byte_length x.suffix

-- The token that begins at this offset.
abbrev pub token_at : ℕ → Lexeme → Token
token_at at x = record {
  kind = x.kind;
  span = record { start = at; end = end_of at x };
  suffix_start = at + byte_length x.body;
  is_ended = x.is_ended;
}

-- The tokens one after the other, of which the first begins at this offset.
abbrev pub placed_tokens : ℕ → List Lexeme → List Token
placed_tokens at [] = []
placed_tokens at (x ∷ xs) = token_at at x ∷ placed_tokens (end_of at x) xs

-- The end of the last of these tokens.
abbrev pub end_of_all : ℕ → List Lexeme → ℕ
end_of_all at [] = at
end_of_all at (x ∷ xs) = end_of_all (end_of at x) xs

-- One token of this kind between two offsets, or none if they are the same.
abbrev pub token_between : Kind → ℕ → ℕ → List Token
token_between k a b = if nat_lt a b then record {
  kind = k;
  span = record { start = a; end = b };
  suffix_start = b;
  is_ended = true;
} ∷ [] else []
