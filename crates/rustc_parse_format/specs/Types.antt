-- The pieces of a format string, over any type of span: a pair of marks, a byte range, or nothing.
-- The types are those of the Rust crate `rustc_parse_format`.
use Rattle.std.specs.Prelude.{ℕ, Bool, true, false, [], Option, None, option_map}
use Rattle.rustc_parse_format.specs.Characters.{Text}

pub data Mode : Type 0 where
  Format : Mode
  InlineAsm : Mode
  Diagnostic : Mode
  -- A diagnostic in which each argument is a name and has nothing after its colon.
  DiagnosticNamed : Mode

-- The mode accepts only arguments that are names, however they are spelled.
abbrev pub wants_names : Mode → Bool
wants_names Format = false
wants_names InlineAsm = false
wants_names Diagnostic = false
wants_names DiagnosticNamed = true

-- The alignment of a specification. `Unknown` means that it has none.
pub data Alignment : Type 0 where
  Left : Alignment
  Right : Alignment
  Center : Alignment
  Unknown : Alignment

-- The sign flag, `+` or `-`.
pub data Sign : Type 0 where
  Plus : Sign
  Minus : Sign

-- The case of the hexadecimal digits in `x?` and `X?`.
pub data DebugHex : Type 0 where
  Lower : DebugHex
  Upper : DebugHex

-- The argument that a position means: the next one, with the number that it takes; the one with a
-- given number; or the one with a name.
pub data Position : Type 0 where
  Implicit : ℕ → Position
  Index : ℕ → Position
  Named : Text → Position

-- The position is a name.
abbrev pub is_named : Position → Bool
is_named (Implicit n) = false
is_named (Index n) = false
is_named (Named w) = true

-- A width or a precision: a number, an argument by its name, by its number or by `*`, or none.
pub data Count (Span : Type 0) : Type 0 where
  Is : ℕ → Count Span
  Name : Text → Span → Count Span
  Param : ℕ → Count Span
  Star : ℕ → Count Span
  Implied : Count Span

-- A format specification.
pub record Spec (Span : Type 0) : Type 0 where
  pub fill : Option ℕ
  pub fill_span : Option Span
  pub align : Alignment
  pub sign : Option Sign
  pub alternate : Bool
  pub zero_pad : Bool
  pub debug_hex : Option DebugHex
  pub width : Count Span
  pub width_span : Option Span
  pub precision : Count Span
  pub precision_span : Option Span
  pub ty : Text
  pub ty_span : Option Span

-- A placeholder: the argument that it means, the span where that is written, and the format.
pub record Argument (Span : Type 0) : Type 0 where
  pub position : Position
  pub position_span : Span
  pub format : Spec Span

-- A piece: text, or an argument to be formatted.
pub data Piece (Span : Type 0) : Type 0 where
  Lit : Text → Piece Span
  NextArgument : Argument Span → Piece Span

-- The piece is text.
abbrev pub IsText : {A : Type 0} → Piece A → Type 0
IsText (Lit t) = Unit {0}
IsText (NextArgument a) = ⊥

-- The specification whose parts are all absent, as in `{}`.
abbrev pub default_spec : {A : Type 0} → Spec A
default_spec = record {
  fill = None;
  fill_span = None;
  align = Unknown;
  sign = None;
  alternate = false;
  zero_pad = false;
  debug_hex = None;
  width = Implied;
  width_span = None;
  precision = Implied;
  precision_span = None;
  ty = [];
  ty_span = None;
}

-- Applies a function to each span of a count.
abbrev pub map_count : {A B : Type 0} → (A → B) → Count A → Count B
map_count f (Is n) = Is n
map_count f (Name w s) = Name w (f s)
map_count f (Param n) = Param n
map_count f (Star n) = Star n
map_count f Implied = Implied

-- Applies a function to each span of a specification.
abbrev pub map_spec : {A B : Type 0} → (A → B) → Spec A → Spec B
map_spec f s = record {
  fill = s.fill;
  fill_span = option_map f s.fill_span;
  align = s.align;
  sign = s.sign;
  alternate = s.alternate;
  zero_pad = s.zero_pad;
  debug_hex = s.debug_hex;
  width = map_count f s.width;
  width_span = option_map f s.width_span;
  precision = map_count f s.precision;
  precision_span = option_map f s.precision_span;
  ty = s.ty;
  ty_span = option_map f s.ty_span;
}

-- Applies a function to each span of an argument.
abbrev pub map_argument : {A B : Type 0} → (A → B) → Argument A → Argument B
map_argument f a = record {
  position = a.position;
  position_span = f a.position_span;
  format = map_spec f a.format;
}

-- Applies a function to each span of a piece.
abbrev pub map_piece : {A B : Type 0} → (A → B) → Piece A → Piece B
map_piece f (Lit t) = Lit t
map_piece f (NextArgument a) = NextArgument (map_argument f a)

-- A count without its spans: each span becomes the unit value.
abbrev pub bare_count : {A : Type 0} → Count A → Count (Unit {0})
bare_count k = map_count (λ s. tt) k

-- A specification without its spans: each optional span becomes None.
abbrev pub bare_spec : {A : Type 0} → Spec A → Spec (Unit {0})
bare_spec s = record {
  fill = s.fill;
  fill_span = None;
  align = s.align;
  sign = s.sign;
  alternate = s.alternate;
  zero_pad = s.zero_pad;
  debug_hex = s.debug_hex;
  width = bare_count s.width;
  width_span = None;
  precision = bare_count s.precision;
  precision_span = None;
  ty = s.ty;
  ty_span = None;
}

-- An argument without its spans.
abbrev pub bare_argument : {A : Type 0} → Argument A → Argument (Unit {0})
bare_argument a = record { position = a.position; position_span = tt; format = bare_spec a.format }

-- A piece without its spans.
abbrev pub bare_piece : {A : Type 0} → Piece A → Piece (Unit {0})
bare_piece (Lit t) = Lit t
bare_piece (NextArgument a) = NextArgument (bare_argument a)
