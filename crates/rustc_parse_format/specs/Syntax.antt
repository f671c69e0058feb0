-- A format string as it is written: its pieces and their parts, the spelling of each, and the texts
-- that may follow it. The public rule is the grammar of format strings in the documentation of
-- `std::fmt`. Each rule is quoted before its definition, and additions of this language are said
-- after the quotation. A part is as long as it can be, from left to right, and an optional part is
-- left out only where it does not begin.
use Prim.Native.Char.{code}
use Rattle.std.specs.Prelude.{◌≡◌, ℕ, Bool, true, false, not, ◌||◌, ◌==◌, [], ◌∷◌, Option, Some}
use Rattle.std.specs.Prelude.{None, codes}
use Rattle.std.specs.Char.{is_ascii_digit, is_whitespace}
use Rattle.rustc_parse_format.specs.Characters.{Text, is_align, is_brace, is_id_start, is_no_brace}
use Rattle.rustc_parse_format.specs.Characters.{after_first, begins_raw, begins_with, first_passes}
use Rattle.rustc_parse_format.specs.Types.{Mode, Format, InlineAsm, Diagnostic, DiagnosticNamed}
use Rattle.rustc_parse_format.specs.Types.{Alignment, Left, Right, Center, Unknown, Sign, Plus}
use Rattle.rustc_parse_format.specs.Types.{Minus}
use Rattle.rustc_parse_format.specs.Types.{DebugHex, Lower, Upper}
use Rattle.rustc_parse_format.specs.Spelling.{Part, IsPart, part_before, fixed_part, part_unless}
use Rattle.rustc_parse_format.specs.Spelling.{absent_part, never_part}
use Rattle.rustc_parse_format.specs.Spelling.{run, some_run, doubled_part, integer, identifier}
use Rattle.rustc_parse_format.specs.Spelling.{identifier_before, optional_identifier}
use Rattle.rustc_parse_format.specs.Spelling.{begins_with_part, row}

pub data PositionText : Type 0 where
  Digits : Text → PositionText
  Word : Text → PositionText
  -- `r#a`, a raw identifier.
  RawWord : Text → PositionText
  NoPosition : PositionText

-- argument := integer | identifier. A raw identifier is read too, and is a fault. Where one begins,
-- no word begins.
abbrev pub position_part : PositionText → Part
position_part (Digits ds) = integer ds
position_part (Word w) = row (absent_part begins_raw ∷ identifier w ∷ [])
position_part (RawWord w) = row (fixed_part (codes "r#") ∷ identifier w ∷ [])
position_part NoPosition = absent_part (λ t. first_passes is_ascii_digit t || first_passes
    is_id_start t)

-- fill := character, and only where an alignment follows it.
abbrev pub fill_part : Option ℕ → Part
fill_part (Some c) = part_before (c ∷ []) (first_passes is_align)
fill_part None = absent_part (λ t. first_passes is_align (after_first t))

-- align := '<' | '^' | '>'
abbrev pub align_part : Alignment → Part
align_part Left = fixed_part (codes "<")
align_part Right = fixed_part (codes ">")
align_part Center = fixed_part (codes "^")
align_part Unknown = absent_part (first_passes is_align)

-- The character is a sign: `+` or `-`.
abbrev pub is_sign : ℕ → Bool
is_sign c = (c == code "+") || (c == code "-")

-- sign := '+' | '-'
abbrev pub sign_part : Option Sign → Part
sign_part (Some Plus) = fixed_part (codes "+")
sign_part (Some Minus) = fixed_part (codes "-")
sign_part None = absent_part (first_passes is_sign)

-- ['#']
abbrev pub alternate_part : Bool → Part
alternate_part true = fixed_part (codes "#")
alternate_part false = absent_part (begins_with (code "#"))

pub data CountText : Type 0 where
  -- A number: `10`.
  NumberCount : Text → CountText
  -- The number of an argument: `10$`.
  IndexCount : Text → CountText
  -- The name of an argument: `a$`.
  NameCount : Text → CountText
  NoCount : CountText

-- A name that is followed by its `$`.
abbrev pub name_part : Text → Part
name_part w = identifier_before (begins_with (code "$")) w

-- count := integer | parameter, parameter := argument '$'. A count is left out only where neither
-- digits begin nor a name that is followed by `$`.
abbrev pub count_part : CountText → Part
count_part (NumberCount ds) = row (integer ds ∷ absent_part (begins_with (code "$")) ∷ [])
count_part (IndexCount ds) = row (integer ds ∷ fixed_part (codes "$") ∷ [])
count_part (NameCount w) = row (name_part w ∷ fixed_part (codes "$") ∷ [])
count_part NoCount = absent_part (λ t. first_passes is_ascii_digit t || begins_with_part name_part
    t)

pub data WidthText : Type 0 where
  -- The flag `0` and a count.
  PaddedWidth : CountText → WidthText
  -- `0$`, the argument with the number 0. Its `0` is not the flag.
  ZeroIndexWidth : WidthText
  -- A count without the flag.
  PlainWidth : CountText → WidthText

-- ['0'] [width], width := count. A `0` at the start is the flag, unless a `$` follows it.
abbrev pub width_part : WidthText → Part
width_part (PaddedWidth k) = row (part_unless (codes "0") (begins_with (code "$")) ∷ count_part k
    ∷ [])
width_part ZeroIndexWidth = fixed_part (codes "0$")
width_part (PlainWidth k) = row (absent_part (begins_with (code "0")) ∷ count_part k ∷ [])

pub data PrecisionText : Type 0 where
  NoPrecision : PrecisionText
  -- `.*`
  StarPrecision : PrecisionText
  -- `.` and a count.
  DotPrecision : CountText → PrecisionText

-- ['.' precision], precision := count | '*'
abbrev pub precision_part : PrecisionText → Part
precision_part NoPrecision = absent_part (begins_with (code "."))
precision_part StarPrecision = fixed_part (codes ".*")
precision_part (DotPrecision k) =
    row (part_unless (codes ".") (begins_with (code "*")) ∷ count_part k ∷ [])

pub data TypeText : Type 0 where
  -- `x?` or `X?`
  DebugHexType : DebugHex → TypeText
  -- `x`, `X` or `?`
  CharacterType : ℕ → TypeText
  -- A word. It may be empty.
  WordType : Text → TypeText

-- The character is a type by itself: `x`, `X` or `?`.
abbrev pub is_type_character : ℕ → Bool
is_type_character c = (c == code "x") || (c == code "X") || (c == code "?")

-- type := '' | '?' | 'x?' | 'X?' | identifier. No longer word begins with `x` or `X`: each is a
-- type by itself, or with the `?` that follows it.
abbrev pub type_part : TypeText → Part
type_part (DebugHexType Lower) = fixed_part (codes "x?")
type_part (DebugHexType Upper) = fixed_part (codes "X?")
type_part (CharacterType c) = record {
  spelling = c ∷ [];
  is_formed = is_type_character c;
  may_precede = λ t. (c == code "?") || not (begins_with (code "?") t);
}
type_part (WordType w) = row (absent_part (first_passes is_type_character) ∷ optional_identifier w
    ∷ [])

-- The parts of a format specification as they are written.
pub record FormatText : Type 0 where
  pub fill : Option ℕ
  pub align : Alignment
  pub sign : Option Sign
  pub alternate : Bool
  pub width : WidthText
  pub precision : PrecisionText
  pub type : TypeText

-- format_spec := [[fill]align][sign]['#']['0'][width]['.' precision]type
abbrev pub format_part : FormatText → Part
format_part p = row (fill_part p.fill ∷ align_part p.align ∷ sign_part p.sign
    ∷ alternate_part p.alternate
    ∷ width_part p.width ∷ precision_part p.precision ∷ type_part p.type ∷ [])

-- The specification as it is written, or its absence.
pub data SpecText : Type 0 where
  -- Nothing: there is no colon.
  Default : SpecText
  Formatting : FormatText → SpecText
  -- The modifier of a placeholder in an assembly template.
  Modifier : Text → SpecText
  -- The text after the colon of a placeholder in a diagnostic.
  DiagnosticText : Text → SpecText

-- [ ':' format_spec ] in the mode Format. In the mode InlineAsm a word or nothing follows the
-- colon, in the two modes of diagnostics any text without braces.
abbrev pub spec_part : Mode → SpecText → Part
spec_part mode Default = absent_part (begins_with (code ":"))
spec_part Format (Formatting p) = row (fixed_part (codes ":") ∷ format_part p ∷ [])
spec_part Format (Modifier w) = never_part
spec_part Format (DiagnosticText u) = never_part
spec_part InlineAsm (Formatting p) = never_part
spec_part InlineAsm (Modifier w) = row (fixed_part (codes ":") ∷ optional_identifier w ∷ [])
spec_part InlineAsm (DiagnosticText u) = never_part
spec_part Diagnostic (Formatting p) = never_part
spec_part Diagnostic (Modifier w) = never_part
spec_part Diagnostic (DiagnosticText u) = row (fixed_part (codes ":") ∷ run is_no_brace u ∷ [])
spec_part DiagnosticNamed (Formatting p) = never_part
spec_part DiagnosticNamed (Modifier w) = never_part
spec_part DiagnosticNamed (DiagnosticText u) = row (fixed_part (codes ":") ∷ run is_no_brace u ∷ [])

-- The text between the braces of a placeholder, without the white space before the closing brace.
pub record FieldText : Type 0 where
  pub position : PositionText
  -- The white space after the position.
  pub space : Text
  pub spec : SpecText

-- A field: a position, white space and a specification.
abbrev pub field_part : Mode → FieldText → Part
field_part mode a = row (position_part a.position ∷ run is_whitespace a.space
    ∷ spec_part mode a.spec ∷ [])

-- format := '{' [ argument ] [ ':' format_spec ] [ ws ] * '}'. White space may be before the colon
-- too.
abbrev pub placeholder_part : Mode → FieldText → Text → Part
placeholder_part mode a space =
    row (fixed_part (codes "{") ∷ field_part mode a ∷ run is_whitespace space
    ∷ fixed_part (codes "}") ∷ [])

-- A piece of a format string, as it is written.
pub data PieceText : Type 0 where
  -- Characters without braces.
  RunText : Text → PieceText
  -- A brace twice, and then characters without braces.
  DoubledText : ℕ → Text → PieceText
  -- A placeholder, with the white space before its closing brace.
  PlaceholderText : FieldText → Text → PieceText

-- format_string := text [ maybe_format text ] *, maybe_format := '{' '{' | '}' '}' | format
abbrev pub piece_part : Mode → PieceText → Part
piece_part mode (RunText u) = some_run is_no_brace u
piece_part mode (DoubledText b u) = row (doubled_part is_brace b ∷ run is_no_brace u ∷ [])
piece_part mode (PlaceholderText a space) = placeholder_part mode a space

-- An opening brace that is not doubled and the field after it, with a closing brace or without.
abbrev pub opened_part : Mode → FieldText → Part
opened_part mode a = row (part_unless (codes "{") (begins_with (code "{")) ∷ field_part mode a ∷ [])

-- The text t is the field a followed by r.
abbrev pub IsCut : Mode → Text → FieldText → Text → Type 0
IsCut mode t a r = IsPart t (field_part mode a) r

-- The text t is the field a followed by r, and no other field followed by any other rest.
pub record IsOnlyCut (mode : Mode) (t : Text) (a : FieldText) (r : Text) : Type 0 where
  pub is_cut : IsCut mode t a r
  pub is_only : (b : FieldText) (s : Text) → IsCut mode t b s → (b ≡ a) × (s ≡ r)
