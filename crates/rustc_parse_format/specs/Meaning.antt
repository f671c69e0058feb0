-- The meaning of a cut, where c is the next number: the same argument as in `Values`, with spans
-- that are pairs of marks. Where a part is said to be at t with r after it, t is the rest of the
-- input at the start of the part, and r is the rest at its end.
use Rattle.std.specs.Prelude.{ℕ, ◌++◌, List, [], ◌∷◌, Option, Some, None, codes}
use Rattle.rustc_parse_format.specs.Characters.{Text, after_first, number}
use Rattle.rustc_parse_format.specs.Types.{Count, Is, Name, Param, Star, Implied, Spec, Argument}
use Rattle.rustc_parse_format.specs.Types.{default_spec}
use Rattle.rustc_parse_format.specs.Marks.{Span, up_to, span_through, over_first, run_texts}
use Rattle.rustc_parse_format.specs.Placeholder.{Cut}
use Rattle.rustc_parse_format.specs.Syntax.{CountText, NumberCount, IndexCount, NameCount, NoCount}
use Rattle.rustc_parse_format.specs.Syntax.{WidthText, PaddedWidth, ZeroIndexWidth, PlainWidth}
use Rattle.rustc_parse_format.specs.Syntax.{width_part, PrecisionText, NoPrecision, StarPrecision}
use Rattle.rustc_parse_format.specs.Syntax.{DotPrecision, precision_part, TypeText, DebugHexType}
use Rattle.rustc_parse_format.specs.Syntax.{CharacterType, WordType, type_part, FormatText}
use Rattle.rustc_parse_format.specs.Syntax.{SpecText, Default, Formatting, Modifier, DiagnosticText}
use Rattle.rustc_parse_format.specs.Values.{is_padded, type_of, debug_hex_of, number_after_spec}
use Rattle.rustc_parse_format.specs.Values.{position_of}

-- The meaning of the count that is at t with r after it. The span of a name ends before its `$`.
abbrev pub count_of : Text → CountText → Text → Count Span
count_of t (NumberCount ds) r = Is (number ds)
count_of t (IndexCount ds) r = Param (number ds)
count_of t (NameCount w) r = Name w (up_to t (codes "$" ++ r))
count_of t NoCount r = Implied

-- The span of a count, from t to r. None if there is no count.
abbrev pub count_span : Text → CountText → Text → Option Span
count_span t (NumberCount ds) r = Some (up_to t r)
count_span t (IndexCount ds) r = Some (up_to t r)
count_span t (NameCount w) r = Some (up_to t r)
count_span t NoCount r = None

-- The meaning of the width that is at t with r after it.
abbrev pub width_of : Text → WidthText → Text → Count Span
width_of t (PaddedWidth k) r = count_of (after_first t) k r
width_of t ZeroIndexWidth r = Param 0
width_of t (PlainWidth k) r = count_of t k r

-- The span of the count in a width that is at t with r after it, without the flag `0`.
abbrev pub width_span : Text → WidthText → Text → Option Span
width_span t (PaddedWidth k) r = count_span (after_first t) k r
width_span t ZeroIndexWidth r = Some (span_through t (after_first t))
width_span t (PlainWidth k) r = count_span t k r

-- The meaning of the precision that is at t with r after it. A star takes the next number, c.
abbrev pub precision_of : ℕ → Text → PrecisionText → Text → Count Span
precision_of c t NoPrecision r = Implied
precision_of c t StarPrecision r = Star c
precision_of c t (DotPrecision k) r = count_of (after_first t) k r

-- The span of a precision and its dot, from t to r. None if there is no precision.
abbrev pub precision_span : Text → PrecisionText → Text → Option Span
precision_span t NoPrecision r = None
precision_span t StarPrecision r = Some (up_to t r)
precision_span t (DotPrecision k) r = Some (up_to t r)

-- The span of a word, from t to r. None if the word is empty.
abbrev pub word_span : Text → Text → Text → Option Span
word_span t [] r = None
word_span t (c ∷ w) r = Some (up_to t r)

-- The span of a type, from t to r. The types `x`, `X`, `?`, `x?` and `X?` have none.
abbrev pub type_span : Text → TypeText → Text → Option Span
type_span t (DebugHexType h) r = None
type_span t (CharacterType c) r = None
type_span t (WordType w) r = word_span t w r

-- The span of the fill at t. None if there is no fill.
abbrev pub fill_span : Text → Option ℕ → Option Span
fill_span t None = None
fill_span t (Some c) = Some (over_first t)

-- The rest of the input from the type on, where r is left after the specification.
abbrev pub from_type : FormatText → Text → Text
from_type p r = (type_part p.type).spelling ++ r

-- The rest of the input from the precision on, where r is left after the specification.
abbrev pub from_precision : FormatText → Text → Text
from_precision p r = (precision_part p.precision).spelling ++ from_type p r

-- The rest of the input from the width on, where r is left after the specification.
abbrev pub from_width : FormatText → Text → Text
from_width p r = (width_part p.width).spelling ++ from_precision p r

-- The meaning of the format specification that is at t, after its colon, with r after it.
unfoldable pub format_of : ℕ → Text → FormatText → Text → Spec Span
format_of c t p r = record {
  fill = p.fill;
  fill_span = fill_span t p.fill;
  align = p.align;
  sign = p.sign;
  alternate = p.alternate;
  zero_pad = is_padded p.width;
  debug_hex = debug_hex_of p.type;
  width = width_of (from_width p r) p.width (from_precision p r);
  width_span = width_span (from_width p r) p.width (from_precision p r);
  precision = precision_of c (from_precision p r) p.precision (from_type p r);
  precision_span = precision_span (from_precision p r) p.precision (from_type p r);
  ty = type_of p.type;
  ty_span = type_span (from_type p r) p.type r;
}

-- The meaning of the specification, or of its absence, at t with r after it.
abbrev pub spec_of : ℕ → Text → SpecText → Text → Spec Span
spec_of c t Default r = default_spec
spec_of c t (Formatting p) r = format_of c (after_first t) p r
spec_of c t (Modifier w) r = record default_spec {
  ty = w;
  ty_span = word_span (after_first t) w r;
}
spec_of c t (DiagnosticText u) r = record default_spec { ty = u; ty_span = Some (up_to t r) }

-- The argument that a cut means.
unfoldable pub argument : ℕ → Cut → Argument Span
argument c a = record {
  position = position_of (number_after_spec c a.field.spec) a.field.position;
  position_span = up_to a.position_at a.spec_at;
  format = spec_of c a.spec_at a.field.spec a.rest;
}

-- The characters of a specification that are read as text, where r is left after it. In a
-- diagnostic they are all characters after the colon; elsewhere there are none.
abbrev pub spec_texts : SpecText → Text → List (ℕ × ℕ)
spec_texts Default r = []
spec_texts (Formatting p) r = []
spec_texts (Modifier w) r = []
spec_texts (DiagnosticText u) r = run_texts u r
