-- The meaning of a piece as written, without spans, and the number that the next implicit argument
-- takes. The number c is that number before the piece. The public rules are in the documentation of
-- `std::fmt`: positional parameters, width and precision.
use Rattle.std.specs.Prelude.{ℕ, Bool, true, false, suc, if◌then◌else◌, [], ◌∷◌, Option, Some, None}
use Rattle.std.specs.Prelude.{codes, is_some, unwrap_or}
use Rattle.rustc_parse_format.specs.Characters.{Text, number}
use Rattle.rustc_parse_format.specs.Types.{DebugHex, Position, Implicit, Index, Named, is_named}
use Rattle.rustc_parse_format.specs.Types.{Count, Is}
use Rattle.rustc_parse_format.specs.Types.{Name, Param, Star, Implied, Spec, Argument, Piece, Lit}
use Rattle.rustc_parse_format.specs.Types.{NextArgument, default_spec}
use Rattle.rustc_parse_format.specs.Syntax.{PositionText, Digits, Word, RawWord, NoPosition}
use Rattle.rustc_parse_format.specs.Syntax.{CountText, NumberCount, IndexCount, NameCount, NoCount}
use Rattle.rustc_parse_format.specs.Syntax.{WidthText, PaddedWidth, ZeroIndexWidth, PlainWidth}
use Rattle.rustc_parse_format.specs.Syntax.{PrecisionText, NoPrecision, StarPrecision}
use Rattle.rustc_parse_format.specs.Syntax.{DotPrecision, TypeText}
use Rattle.rustc_parse_format.specs.Syntax.{DebugHexType, CharacterType, WordType, FormatText}
use Rattle.rustc_parse_format.specs.Syntax.{SpecText, Default, Formatting, Modifier, DiagnosticText}
use Rattle.rustc_parse_format.specs.Syntax.{FieldText, PieceText, RunText, DoubledText}
use Rattle.rustc_parse_format.specs.Syntax.{PlaceholderText}

-- The meaning of a count.
abbrev pub count_value : CountText → Count (Unit {0})
count_value (NumberCount ds) = Is (number ds)
count_value (IndexCount ds) = Param (number ds)
count_value (NameCount w) = Name w tt
count_value NoCount = Implied

-- The flag `0` is set.
abbrev pub is_padded : WidthText → Bool
is_padded (PaddedWidth k) = true
is_padded ZeroIndexWidth = false
is_padded (PlainWidth k) = false

-- The meaning of a width.
abbrev pub width_value : WidthText → Count (Unit {0})
width_value (PaddedWidth k) = count_value k
width_value ZeroIndexWidth = Param 0
width_value (PlainWidth k) = count_value k

-- The meaning of a precision. A star takes the next number, c.
abbrev pub precision_value : ℕ → PrecisionText → Count (Unit {0})
precision_value c NoPrecision = Implied
precision_value c StarPrecision = Star c
precision_value c (DotPrecision k) = count_value k

-- The meaning of a type, which is `?` for `x?` and `X?`.
abbrev pub type_of : TypeText → Text
type_of (DebugHexType h) = codes "?"
type_of (CharacterType c) = c ∷ []
type_of (WordType w) = w

-- The case of the hexadecimal digits in `x?` and `X?`.
abbrev pub debug_hex_of : TypeText → Option DebugHex
debug_hex_of (DebugHexType h) = Some h
debug_hex_of (CharacterType c) = None
debug_hex_of (WordType w) = None

-- The meaning of a format specification, where c is the next number.
abbrev pub format_value : ℕ → FormatText → Spec (Unit {0})
format_value c p = record default_spec {
  fill = p.fill;
  align = p.align;
  sign = p.sign;
  alternate = p.alternate;
  zero_pad = is_padded p.width;
  debug_hex = debug_hex_of p.type;
  width = width_value p.width;
  precision = precision_value c p.precision;
  ty = type_of p.type;
}

-- The meaning of the part after a colon in any mode, where c is the next number.
abbrev pub spec_value : ℕ → SpecText → Spec (Unit {0})
spec_value c Default = default_spec
spec_value c (Formatting p) = format_value c p
spec_value c (Modifier w) = record default_spec { ty = w }
spec_value c (DiagnosticText u) = record default_spec { ty = u }

-- The next number after a precision. A star takes one.
abbrev pub number_after_precision : ℕ → PrecisionText → ℕ
number_after_precision c NoPrecision = c
number_after_precision c StarPrecision = suc c
number_after_precision c (DotPrecision k) = c

-- The next number after a specification.
abbrev pub number_after_spec : ℕ → SpecText → ℕ
number_after_spec c Default = c
number_after_spec c (Formatting p) = number_after_precision c p.precision
number_after_spec c (Modifier w) = c
number_after_spec c (DiagnosticText u) = c

-- The position that is written: a number or a name. None if the position is implicit.
abbrev pub given_position : PositionText → Option Position
given_position (Digits ds) = Some (Index (number ds))
given_position (Word w) = Some (Named w)
given_position (RawWord w) = Some (Named w)
given_position NoPosition = None

-- The position is written, and is a name.
abbrev pub is_name : Option Position → Bool
is_name None = false
is_name (Some p) = is_named p

-- The meaning of a position. An implicit one takes the next number, which is that after the
-- specification.
abbrev pub position_of : ℕ → PositionText → Position
position_of c p = unwrap_or (given_position p) (Implicit c)

-- The next number after a position. An implicit one takes one.
abbrev pub number_after_position : ℕ → PositionText → ℕ
number_after_position c p = if is_some (given_position p) then c else suc c

-- The argument that a field means, where c is the next number.
abbrev pub argument_value : ℕ → FieldText → Argument (Unit {0})
argument_value c a = record {
  position = position_of (number_after_spec c a.spec) a.position;
  position_span = tt;
  format = spec_value c a.spec;
}

-- The next number after a field, where c is the next number before it.
unfoldable pub number_after_field : ℕ → FieldText → ℕ
number_after_field c a = number_after_position (number_after_spec c a.spec) a.position

-- The meaning of a piece. A run means itself, a doubled brace means one brace followed by its run,
-- and a placeholder means an argument.
abbrev pub piece_value : ℕ → PieceText → Piece (Unit {0})
piece_value c (RunText u) = Lit u
piece_value c (DoubledText b u) = Lit (b ∷ u)
piece_value c (PlaceholderText a space) = NextArgument (argument_value c a)

-- The next number after a piece.
abbrev pub number_after : ℕ → PieceText → ℕ
number_after c (RunText u) = c
number_after c (DoubledText b u) = c
number_after c (PlaceholderText a space) = number_after_field c a
