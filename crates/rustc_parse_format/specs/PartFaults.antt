-- The faults of the parts of a placeholder, in the order in which they are found. No public
-- document has this rule: it is this project's, and follows the code of rustc's parser.
use Prim.Native.Char.{code}
use Rattle.std.specs.Prelude.{is_some, ℕ, ◌++◌, ◌&&◌, not, ◌||◌, ◌==◌, Bool, if◌then◌else◌, List}
use Rattle.std.specs.Prelude.{[], ◌∷◌, Option, Some, None, codes, bytes_eq}
use Rattle.rustc_parse_format.specs.Characters.{Text, word, after_word, digits, after_digits}
use Rattle.rustc_parse_format.specs.Characters.{first, after_first, after_prefix, is_over}
use Rattle.rustc_parse_format.specs.Marks.{Span, up_to, span_through, over_first}
use Rattle.rustc_parse_format.specs.Placeholder.{Cut}
use Rattle.rustc_parse_format.specs.Syntax.{PositionText, Digits, Word, RawWord, NoPosition}
use Rattle.rustc_parse_format.specs.Syntax.{WidthText, PaddedWidth, ZeroIndexWidth, PlainWidth}
use Rattle.rustc_parse_format.specs.Syntax.{PrecisionText, NoPrecision, StarPrecision, DotPrecision}
use Rattle.rustc_parse_format.specs.Syntax.{TypeText, DebugHexType, CharacterType, WordType}
use Rattle.rustc_parse_format.specs.Syntax.{FormatText, SpecText, Default, Formatting, Modifier}
use Rattle.rustc_parse_format.specs.Syntax.{DiagnosticText}
use Rattle.rustc_parse_format.specs.Meaning.{from_width, from_precision, from_type}
use Rattle.rustc_parse_format.specs.Faults.{Fault, Underscore, TooLarge, Unnamed, TextAfterColon}
use Rattle.rustc_parse_format.specs.Faults.{RawIdentifier, LateFlag}
use Rattle.rustc_parse_format.specs.Types.{Mode, wants_names, Position}
use Rattle.rustc_parse_format.specs.Values.{given_position, is_name}

-- The fault of a word `_` at the start of t.
abbrev pub word_faults : Text → List (Fault Span)
word_faults t = if bytes_eq (word t) (codes "_") then Underscore (up_to t (after_word t)) ∷ []
    else []

-- The fault of an integer above 65535 at the start of t. Its span includes the character after the
-- digits.
abbrev pub number_faults : Text → List (Fault Span)
number_faults t = if is_over (digits t) then TooLarge (digits t) (span_through t (after_digits t))
    ∷ []
    else []

-- The faults of a raw identifier at the start of t. The fault of its word comes first.
abbrev pub raw_faults : Text → List (Fault Span)
raw_faults t = word_faults (after_prefix t)
    ++ RawIdentifier (up_to t (after_word (after_prefix t))) (span_through t (after_first t)) ∷ []

-- The faults of a position at the start of t.
abbrev pub position_faults : Text → PositionText → List (Fault Span)
position_faults t (Digits ds) = number_faults t
position_faults t (Word w) = word_faults t
position_faults t (RawWord w) = raw_faults t
position_faults t NoPosition = []

-- The fault of a position at the span s that is not a name, in a mode that accepts only names.
abbrev pub name_faults : {A : Type 0} → Mode → Option Position → A → List (Fault A)
name_faults mode given s = if wants_names mode && not (is_name given) then Unnamed s ∷ [] else []

-- The faults of a count at the start of t. A count is an integer or a word, so at most one of the
-- two is found. A word is tried for a count, and can be a fault, even where no `$` follows it.
unfoldable pub argument_faults : Text → List (Fault Span)
argument_faults t = number_faults t ++ word_faults t

-- The faults of a width at the start of t.
abbrev pub width_faults : Text → WidthText → List (Fault Span)
width_faults t (PaddedWidth k) = argument_faults (after_first t)
width_faults t ZeroIndexWidth = []
width_faults t (PlainWidth k) = argument_faults t

-- The faults of a precision at the start of t.
abbrev pub precision_faults : Text → PrecisionText → List (Fault Span)
precision_faults t NoPrecision = []
precision_faults t StarPrecision = []
precision_faults t (DotPrecision k) = argument_faults (after_first t)

-- The character is a flag that belongs before the type `?`: `#`, `x` or `X`.
abbrev pub is_debug_flag : ℕ → Bool
is_debug_flag c = (c == code "#") || (c == code "x") || (c == code "X")

-- The fault of such a flag after the type `?`, at the span s. The span b is that of the `?` with
-- the flag.
abbrev pub late_flag : {A : Type 0} → Option ℕ → A → A → List (Fault A)
late_flag None s b = []
late_flag (Some c) s b = if is_debug_flag c then LateFlag c s b ∷ [] else []

-- The fault of a flag after the `?` at the start of t.
abbrev pub flag_faults : Text → List (Fault Span)
flag_faults t = late_flag (first (after_first t)) (over_first (after_first t))
    (span_through t (after_first t))

-- The faults of a type at the start of t.
abbrev pub type_faults : Text → TypeText → List (Fault Span)
type_faults t (DebugHexType h) = []
type_faults t (CharacterType c) = if c == code "?" then flag_faults t else []
type_faults t (WordType w) = word_faults t

-- The faults of a format specification, where r is left after it.
unfoldable pub format_faults : FormatText → Text → List (Fault Span)
format_faults p r = width_faults (from_width p r) p.width
    ++ precision_faults (from_precision p r) p.precision ++ type_faults (from_type p r) p.type

-- The fault of text after a colon, at the span s, in a mode that accepts only names.
abbrev pub text_faults : {A : Type 0} → Mode → Text → A → List (Fault A)
text_faults mode u s = if wants_names mode && is_some (first u) then TextAfterColon s ∷ [] else []

-- The faults of a specification that is at t with r after it.
abbrev pub spec_faults : Mode → Text → SpecText → Text → List (Fault Span)
spec_faults mode t Default r = []
spec_faults mode t (Formatting p) r = format_faults p r
spec_faults mode t (Modifier w) r = word_faults (after_first t)
spec_faults mode t (DiagnosticText u) r = text_faults mode u (up_to t r)

-- The faults of a field, in the order in which they are found.
unfoldable pub cut_faults : Mode → Cut → List (Fault Span)
cut_faults mode a =
    position_faults a.position_at a.field.position
    ++ name_faults mode (given_position a.field.position) (up_to a.position_at a.spec_at)
    ++ spec_faults mode a.spec_at a.field.spec a.rest
