-- The specification after the position of a placeholder, computed. Each mode has its own rule for
-- the part after the colon. The parts are those that `Syntax` defines by the grammar of `std::fmt`.
use Prim.Native.Char.{code}
use Rattle.std.specs.Prelude.{ℕ, Bool, true, false, if◌then◌else◌, ◌==◌, [], ◌∷◌, Option, Some}
use Rattle.std.specs.Prelude.{None}
use Rattle.rustc_parse_format.specs.Characters.{
  Text,
  is_align,
  is_no_brace,
  front,
  rest_after,
  word,
}
use Rattle.rustc_parse_format.specs.Characters.{after_word}
use Rattle.rustc_parse_format.specs.Types.{Mode, Format, InlineAsm, Diagnostic, DiagnosticNamed}
use Rattle.rustc_parse_format.specs.Types.{Alignment, Left, Right, Center, Unknown, Sign, Plus}
use Rattle.rustc_parse_format.specs.Types.{Minus}
use Rattle.rustc_parse_format.specs.Types.{DebugHex, Lower, Upper}
use Rattle.rustc_parse_format.specs.Syntax.{TypeText, DebugHexType, CharacterType, WordType}
use Rattle.rustc_parse_format.specs.Syntax.{FormatText, SpecText, Default, Formatting, Modifier}
use Rattle.rustc_parse_format.specs.Syntax.{DiagnosticText}
use Rattle.rustc_parse_format.specs.Counts.{width, precision}

-- Each part of a format specification is read at the start of a text, and returned with the rest
-- after it.

-- The fill at the start of a text: a character that an alignment follows.
abbrev pub fill : Text → Option ℕ × Text
fill (c ∷ d ∷ t) = if is_align d then (Some c, d ∷ t) else (None, c ∷ d ∷ t)
fill t = (None, t)

-- The alignment at the start of a text.
abbrev pub align : Text → Alignment × Text
align [] = (Unknown, [])
align (c ∷ t) = if c == code "<" then (Left, t)
    else (if c == code ">" then (Right, t)
    else (if c == code "^" then (Center, t) else (Unknown, c ∷ t)))

-- The sign at the start of a text.
abbrev pub sign : Text → Option Sign × Text
sign [] = (None, [])
sign (c ∷ t) = if c == code "+" then (Some Plus, t)
    else (if c == code "-" then (Some Minus, t) else (None, c ∷ t))

-- The flag `#` at the start of a text.
abbrev pub alternate : Text → Bool × Text
alternate [] = (false, [])
alternate (c ∷ t) = if c == code "#" then (true, t) else (false, c ∷ t)

-- The type after an `x` or `X`, where t is left.
abbrev pub after_hex : DebugHex → ℕ → Text → TypeText × Text
after_hex h x [] = (CharacterType x, [])
after_hex h x (c ∷ t) = if c == code "?" then (DebugHexType h, t) else (CharacterType x, c ∷ t)

-- The type at the start of a text.
abbrev pub type : Text → TypeText × Text
type [] = (WordType [], [])
type (c ∷ t) =
    if c == code "x" then after_hex Lower c t
    else (if c == code "X" then after_hex Upper c t
    else (if c == code "?" then (CharacterType c, t)
    else (WordType (word (c ∷ t)), after_word (c ∷ t))))

-- The rest of t from the alignment of a format specification on, which begins at t. The fill is
-- before it.
abbrev pub align_at : Text → Text
align_at t = (fill t).1

-- The rest of t from the sign on.
abbrev pub sign_at : Text → Text
sign_at t = (align (align_at t)).1

-- The rest of t from the flag `#` on.
abbrev pub alternate_at : Text → Text
alternate_at t = (sign (sign_at t)).1

-- The rest of t from the width on.
abbrev pub width_at : Text → Text
width_at t = (alternate (alternate_at t)).1

-- The rest of t from the precision on.
abbrev pub precision_at : Text → Text
precision_at t = (width (width_at t)).1

-- The rest of t from the type on.
abbrev pub type_at : Text → Text
type_at t = (precision (precision_at t)).1

-- The format specification at the start of a text, and the rest after it.
unfoldable pub format_text : Text → FormatText × Text
format_text t = (
  record {
    fill = (fill t).0;
    align = (align (align_at t)).0;
    sign = (sign (sign_at t)).0;
    alternate = (alternate (alternate_at t)).0;
    width = (width (width_at t)).0;
    precision = (precision (precision_at t)).0;
    type = (type (type_at t)).0;
  },
  (type (type_at t)).1,
)

-- The part after the colon, where t is left after the colon, and the rest after that part.
abbrev pub after_colon : Mode → Text → SpecText × Text
after_colon Format t = (Formatting (format_text t).0, (format_text t).1)
after_colon InlineAsm t = (Modifier (word t), after_word t)
after_colon Diagnostic t = (DiagnosticText (front is_no_brace t), rest_after is_no_brace t)
after_colon DiagnosticNamed t = (DiagnosticText (front is_no_brace t), rest_after is_no_brace t)

-- The specification at the start of a text, and the rest after it.
abbrev pub specification : Mode → Text → SpecText × Text
specification mode [] = (Default, [])
specification mode (c ∷ t) = if c == code ":" then after_colon mode t else (Default, c ∷ t)
