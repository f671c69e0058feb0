-- The source that the program gives the parser, for an input that is UTF-8.
use Rattle.std.specs.Prelude.{◌≡◌, ℕ, ◌++◌, Bool, true, false, Option, Some, None}
use Rattle.rustc_parse_format.specs.Characters.{Text}
use Rattle.rustc_parse_format.specs.Literal.{IsLiteral, newline}

-- A text, with the style and the snippet of the literal that it is in.
pub record Source : Type 0 where
  pub text : Text
  pub style : Option ℕ
  pub snippet : Option Text

-- A text that is in no literal.
abbrev pub bare_source : Text → Source
bare_source t = record { text = t; style = None; snippet = None }

-- The input is a literal, with at most one newline after it.
pub record IsInLiteral (input : Text) (s : Source) : Type 0 where
  pub literal : Text
  pub appended : Bool
  pub is_whole : literal ++ newline appended ≡ input
  pub is_literal : IsLiteral s.style literal s.text
  pub is_snippet : s.snippet ≡ Some literal

-- The source that the program gives the parser for this input. The flag says whether the input is
-- read as a literal.
abbrev pub IsSourceOf : Bool → Text → Source → Type 0
IsSourceOf true input s = IsInLiteral input s
IsSourceOf false input s = s ≡ bare_source input
