-- Literals as a contract sees them.
use Rattle.std.specs.Prelude.{◌≡◌, ◌++◌, ℕ, true, false, not, List, Some, chars}
use Rattle.std.specs.Prelude.{string_bytes}
use Rattle.rustc_parse_format.specs.Characters.{Text}
use Rattle.rustc_parse_format.specs.Literal.{newline}
use Rattle.rustc_parse_format.specs.Views.{seen_mode}
use Rattle.rustc_parse_format.specs.State.{State, first_state}
use Rattle.rustc_parse_format.specs.Types.{Mode}
use Rattle.format_literal.specs.declared.values.Literal.{Literal}
use Rattle.format_literal.specs.Spelling.{IsWritten}

-- The text of a literal.
abbrev pub text_of : Literal → Text
text_of l = chars (string_bytes l.text)

-- The literal as it is in the source.
abbrev pub snippet_of : Literal → Text
snippet_of l = chars l.snippet.now

-- A parser at the start of the text of a literal.
abbrev pub start : Literal → State
start l = first_state (seen_mode l.mode) (text_of l) l.style (Some (snippet_of l))
    l.appended_newline

-- The literal that a source is, in a mode.
pub record IsRead (source : List ℕ) (m : Mode) (l : Literal) : Type 0 where
  pub is_written : IsWritten l.style (chars source) (text_of l)
  pub snippet : l.snippet.now ≡ source
  pub appended : l.appended_newline ≡ false
  pub mode : seen_mode l.mode ≡ m

-- The literal m is l with a newline appended to its text, unless l has one already.
pub record EndsLine (l m : Literal) : Type 0 where
  pub text : text_of m ≡ text_of l ++ newline (not l.appended_newline)
  pub appended : m.appended_newline ≡ true
  pub style : m.style ≡ l.style
  pub snippet : m.snippet.now ≡ l.snippet.now
  pub mode : seen_mode m.mode ≡ seen_mode l.mode
