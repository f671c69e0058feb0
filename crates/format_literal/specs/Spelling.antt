-- String literals as they stand in a program, by the rules of the Rust Reference.
use Prim.Native.Char.{code}
use Rattle.std.specs.Prelude.{◌≡◌, ◌==◌, ℕ, Bool, true, not, [], Option, Some, None, IsTrue}
use Rattle.std.specs.List.{list_all}
use Rattle.rustc_parse_format.specs.Characters.{Text}
use Rattle.rustc_parse_format.specs.Literal.{IsOrdinaryLiteral, raw_frame}
use Rattle.rust_tokens.specs.declared.kinds.Kind.TheVariants.{RawStr}
use Rattle.rust_tokens.specs.Tokens.{Begins, Lexeme}

-- The character is no CR.
abbrev pub is_no_cr : ℕ → Bool
is_no_cr c = not (c == code "\r")

-- The text is one token, a raw string literal that ends, without a suffix.
pub record IsRawToken (t : Text) : Type 0 where
  pub token : Lexeme
  pub begins : Begins token t []
  pub is_raw : token.kind ≡ RawStr
  pub is_ended : token.is_ended ≡ true
  pub suffix : token.suffix ≡ []

-- The source is a string literal of this style that stands for the text t. A raw one is one token,
-- so its text has no quote with as many hashes after it as at its end.
abbrev pub IsWritten : Option ℕ → Text → Text → Type 0
IsWritten None source t = IsOrdinaryLiteral source t
IsWritten (Some n) source t = (source ≡ raw_frame n t) × IsRawToken source
    × IsTrue (list_all is_no_cr t)
