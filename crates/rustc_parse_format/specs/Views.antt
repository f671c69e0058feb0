-- The values of the declared types as a contract sees them: texts as their characters, messages as
-- their bytes, ranges as pairs.
use Rattle.std.specs.Prelude.{ℕ, Option, Some, None, option_map, chars, string_bytes}
use Rattle.std.specs.declared.string.String.{String}
use Rattle.std.specs.declared.alloc.Global.{Global}
use Rattle.std.specs.declared.ops.Range.{Range}
use Rattle.rustc_parse_format.specs.declared.types.ParseMode.{ParseMode as DeclaredMode}
use Rattle.rustc_parse_format.specs.declared.types.ParseMode.TheVariants.{Format as FormatMode}
use Rattle.rustc_parse_format.specs.declared.types.ParseMode.TheVariants.{}
use Rattle.rustc_parse_format.specs.declared.types.ParseMode.TheVariants.{}
use Rattle.rustc_parse_format.specs.declared.types.ParseMode.TheVariants.{}
use Rattle.rustc_parse_format.specs.declared.types.ParseMode.TheVariants.{}
use Rattle.rustc_parse_format.specs.declared.types.ParseMode.TheVariants.{InlineAsm as InlineAsmMode}
use Rattle.rustc_parse_format.specs.declared.types.ParseMode.TheVariants.{}
use Rattle.rustc_parse_format.specs.declared.types.ParseMode.TheVariants.{}
use Rattle.rustc_parse_format.specs.declared.types.ParseMode.TheVariants.{}
use Rattle.rustc_parse_format.specs.declared.types.ParseMode.TheVariants.{}
use Rattle.rustc_parse_format.specs.declared.types.ParseMode.TheVariants.{Diagnostic as DiagnosticMode}
use Rattle.rustc_parse_format.specs.declared.types.ParseMode.TheVariants.{}
use Rattle.rustc_parse_format.specs.declared.types.ParseMode.TheVariants.{}
use Rattle.rustc_parse_format.specs.declared.types.ParseMode.TheVariants.{}
use Rattle.rustc_parse_format.specs.declared.types.ParseMode.TheVariants.{}
use Rattle.rustc_parse_format.specs.declared.types.ParseMode.TheVariants.{DiagnosticNamed as NamesMode}
use Rattle.rustc_parse_format.specs.declared.types.Piece.{Piece as DeclaredPiece}
use Rattle.rustc_parse_format.specs.declared.types.Piece.TheVariants.{Lit as LitPiece}
use Rattle.rustc_parse_format.specs.declared.types.Piece.TheVariants.{NextArgument as ArgumentPiece}
use Rattle.rustc_parse_format.specs.declared.types.PieceKind.{PieceKind as DeclaredTaken}
use Rattle.rustc_parse_format.specs.declared.types.PieceKind.TheVariants.{Lit as TextKind}
use Rattle.rustc_parse_format.specs.declared.types.PieceKind.TheVariants.{}
use Rattle.rustc_parse_format.specs.declared.types.PieceKind.TheVariants.{}
use Rattle.rustc_parse_format.specs.declared.types.PieceKind.TheVariants.{}
use Rattle.rustc_parse_format.specs.declared.types.PieceKind.TheVariants.{}
use Rattle.rustc_parse_format.specs.declared.types.PieceKind.TheVariants.{NextArgument as ArgumentKind}
use Rattle.rustc_parse_format.specs.declared.types.Argument.{Argument as DeclaredArgument}
use Rattle.rustc_parse_format.specs.declared.types.FormatSpec.{FormatSpec}
use Rattle.rustc_parse_format.specs.declared.types.Position.{Position as DeclaredPosition}
use Rattle.rustc_parse_format.specs.declared.types.Position.TheVariants.{ArgumentImplicitlyIs}
use Rattle.rustc_parse_format.specs.declared.types.Position.TheVariants.{ArgumentIs, ArgumentNamed}
use Rattle.rustc_parse_format.specs.declared.types.Alignment.{Alignment as DeclaredAlignment}
use Rattle.rustc_parse_format.specs.declared.types.Alignment.TheVariants.{AlignLeft, AlignRight}
use Rattle.rustc_parse_format.specs.declared.types.Alignment.TheVariants.{AlignCenter, AlignUnknown}
use Rattle.rustc_parse_format.specs.declared.types.Sign.{Sign as DeclaredSign}
use Rattle.rustc_parse_format.specs.declared.types.Sign.TheVariants.{Plus as PlusSign}
use Rattle.rustc_parse_format.specs.declared.types.Sign.TheVariants.{Minus as MinusSign}
use Rattle.rustc_parse_format.specs.declared.types.DebugHex.{DebugHex as DeclaredDebugHex}
use Rattle.rustc_parse_format.specs.declared.types.DebugHex.TheVariants.{Lower as LowerHex}
use Rattle.rustc_parse_format.specs.declared.types.DebugHex.TheVariants.{Upper as UpperHex}
use Rattle.rustc_parse_format.specs.declared.types.Count.{Count as DeclaredCount}
use Rattle.rustc_parse_format.specs.declared.types.Count.TheVariants.{CountIs, CountIsName}
use Rattle.rustc_parse_format.specs.declared.types.Count.TheVariants.{CountIsParam, CountIsStar}
use Rattle.rustc_parse_format.specs.declared.types.Count.TheVariants.{CountImplied}
use Rattle.rustc_parse_format.specs.declared.types.ParseError.{ParseError}
use Rattle.rustc_parse_format.specs.declared.types.Suggestion.{Suggestion as DeclaredSuggestion}
use Rattle.rustc_parse_format.specs.declared.types.Suggestion.TheVariants.{None as NoSuggestion}
use Rattle.rustc_parse_format.specs.declared.types.Suggestion.TheVariants.{}
use Rattle.rustc_parse_format.specs.declared.types.Suggestion.TheVariants.{}
use Rattle.rustc_parse_format.specs.declared.types.Suggestion.TheVariants.{}
use Rattle.rustc_parse_format.specs.declared.types.Suggestion.TheVariants.{}
use Rattle.rustc_parse_format.specs.declared.types.Suggestion.TheVariants.{UsePositional as Positional}
use Rattle.rustc_parse_format.specs.declared.types.Suggestion.TheVariants.{}
use Rattle.rustc_parse_format.specs.declared.types.Suggestion.TheVariants.{}
use Rattle.rustc_parse_format.specs.declared.types.Suggestion.TheVariants.{}
use Rattle.rustc_parse_format.specs.declared.types.Suggestion.TheVariants.{}
use Rattle.rustc_parse_format.specs.declared.types.Suggestion.TheVariants.{RemoveRawIdent as RemoveRaw}
use Rattle.rustc_parse_format.specs.declared.types.Suggestion.TheVariants.{}
use Rattle.rustc_parse_format.specs.declared.types.Suggestion.TheVariants.{}
use Rattle.rustc_parse_format.specs.declared.types.Suggestion.TheVariants.{}
use Rattle.rustc_parse_format.specs.declared.types.Suggestion.TheVariants.{}
use Rattle.rustc_parse_format.specs.declared.types.Suggestion.TheVariants.{ReorderFormatParameter as Reorder}
use Rattle.rustc_parse_format.specs.declared.types.Suggestion.TheVariants.{}
use Rattle.rustc_parse_format.specs.declared.types.Suggestion.TheVariants.{}
use Rattle.rustc_parse_format.specs.declared.types.Suggestion.TheVariants.{}
use Rattle.rustc_parse_format.specs.declared.types.Suggestion.TheVariants.{}
use Rattle.rustc_parse_format.specs.declared.types.Suggestion.TheVariants.{AddMissingColon as AddColon}
use Rattle.rustc_parse_format.specs.declared.types.Suggestion.TheVariants.{}
use Rattle.rustc_parse_format.specs.declared.types.Suggestion.TheVariants.{}
use Rattle.rustc_parse_format.specs.declared.types.Suggestion.TheVariants.{}
use Rattle.rustc_parse_format.specs.declared.types.Suggestion.TheVariants.{}
use Rattle.rustc_parse_format.specs.declared.types.Suggestion.TheVariants.{UseRustDebugPrintingMacro as UseDebugMacro}
use Rattle.rustc_parse_format.specs.Characters.{Text}
use Rattle.rustc_parse_format.specs.Types.{Mode, Format, InlineAsm, Diagnostic, DiagnosticNamed}
use Rattle.rustc_parse_format.specs.Types.{Alignment, Left}
use Rattle.rustc_parse_format.specs.Types.{Right, Center, Unknown, Sign, Plus, Minus, DebugHex}
use Rattle.rustc_parse_format.specs.Types.{Lower}
use Rattle.rustc_parse_format.specs.Types.{Upper, Position, Implicit, Index, Named, Count, Is, Name}
use Rattle.rustc_parse_format.specs.Types.{Param, Star, Implied, Spec, Argument, Piece, Lit}
use Rattle.rustc_parse_format.specs.Types.{NextArgument}
use Rattle.rustc_parse_format.specs.Faults.{Message, Suggestion, Nothing, UsePositional}
use Rattle.rustc_parse_format.specs.Faults.{RemoveRawIdent, ReorderFormatParameter, AddMissingColon}
use Rattle.rustc_parse_format.specs.Faults.{UseRustDebugPrintingMacro}
use Rattle.rustc_parse_format.specs.World.{Place}

-- A range as a pair of byte offsets.
abbrev pub pair : Range ℕ → Place
pair r = (r.start, r.end)

-- A snippet as its characters.
abbrev pub seen_snippet : Option (String Global) → Option Text
seen_snippet snippet = option_map (λ s. chars (string_bytes s)) snippet

-- A mode as a contract sees it.
abbrev pub seen_mode : DeclaredMode → Mode
seen_mode FormatMode = Format
seen_mode InlineAsmMode = InlineAsm
seen_mode DiagnosticMode = Diagnostic
seen_mode NamesMode = DiagnosticNamed

-- An alignment as a contract sees it.
abbrev pub seen_alignment : DeclaredAlignment → Alignment
seen_alignment AlignLeft = Left
seen_alignment AlignRight = Right
seen_alignment AlignCenter = Center
seen_alignment AlignUnknown = Unknown

-- A sign as a contract sees it.
abbrev pub seen_sign : DeclaredSign → Sign
seen_sign PlusSign = Plus
seen_sign MinusSign = Minus

-- The case of hexadecimal digits as a contract sees it.
abbrev pub seen_debug_hex : DeclaredDebugHex → DebugHex
seen_debug_hex LowerHex = Lower
seen_debug_hex UpperHex = Upper

-- A position as a contract sees it.
abbrev pub seen_position : DeclaredPosition → Position
seen_position (ArgumentImplicitlyIs n) = Implicit n
seen_position (ArgumentIs n) = Index n
seen_position (ArgumentNamed w) = Named (chars w.now)

-- A count as a contract sees it.
abbrev pub seen_count : DeclaredCount → Count Place
seen_count (CountIs n) = Is n
seen_count (CountIsName w r) = Name (chars w.now) (pair r)
seen_count (CountIsParam n) = Param n
seen_count (CountIsStar n) = Star n
seen_count CountImplied = Implied

-- A specification as a contract sees it.
abbrev pub seen_spec : FormatSpec → Spec Place
seen_spec s = record {
  fill = s.fill;
  fill_span = option_map pair s.fill_span;
  align = seen_alignment s.align;
  sign = option_map seen_sign s.sign;
  alternate = s.alternate;
  zero_pad = s.zero_pad;
  debug_hex = option_map seen_debug_hex s.debug_hex;
  width = seen_count s.width;
  width_span = option_map pair s.width_span;
  precision = seen_count s.precision;
  precision_span = option_map pair s.precision_span;
  ty = chars s.ty.now;
  ty_span = option_map pair s.ty_span;
}

-- An argument as a contract sees it.
abbrev pub seen_argument : DeclaredArgument → Argument Place
seen_argument a = record {
  position = seen_position a.position;
  position_span = pair a.position_span;
  format = seen_spec a.format;
}

-- A piece whose placeholder was read into a given argument, as a contract sees it.
abbrev pub seen_taken : DeclaredArgument → DeclaredTaken → Piece Place
seen_taken a (TextKind t) = Lit (chars t.now)
seen_taken a ArgumentKind = NextArgument (seen_argument a)

-- A piece as a contract sees it.
abbrev pub seen_piece : DeclaredPiece → Piece Place
seen_piece (LitPiece t) = Lit (chars t.now)
seen_piece (ArgumentPiece b) = NextArgument (seen_argument b.value)

-- A suggestion as a contract sees it.
abbrev pub seen_suggestion : DeclaredSuggestion → Suggestion Place
seen_suggestion NoSuggestion = Nothing
seen_suggestion Positional = UsePositional
seen_suggestion (RemoveRaw r) = RemoveRawIdent (pair r)
seen_suggestion (Reorder r s) = ReorderFormatParameter (pair r) (string_bytes s)
seen_suggestion (AddColon r) = AddMissingColon (pair r)
seen_suggestion UseDebugMacro = UseRustDebugPrintingMacro

-- An error as a contract sees it.
abbrev pub seen_error : ParseError → Message Place
seen_error e = record {
  description = string_bytes e.description;
  note = option_map string_bytes e.note;
  label = string_bytes e.label;
  span = pair e.span;
  second = option_map (λ x. (string_bytes x.0, pair x.1)) e.secondary_label;
  suggestion = seen_suggestion e.suggestion;
}

-- The number of the argument that a position means. None for a name.
abbrev pub index_of : DeclaredPosition → Option ℕ
index_of (ArgumentImplicitlyIs n) = Some n
index_of (ArgumentIs n) = Some n
index_of (ArgumentNamed w) = None
