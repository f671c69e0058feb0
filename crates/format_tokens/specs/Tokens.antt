-- The tokens of the parts of a format string as they are written, in the order of the grammar. A
-- token is a kind and the characters that are written.
use Rattle.std.specs.Prelude.{◌++◌, if◌then◌else◌, List, [], ◌∷◌, bytes_eq, codes, flat_map}
use Rattle.rustc_parse_format.specs.Characters.{Text, is_over}
use Rattle.rustc_parse_format.specs.Syntax.{PositionText, Digits, Word, RawWord, NoPosition}
use Rattle.rustc_parse_format.specs.Syntax.{CountText, NumberCount, IndexCount, NameCount, NoCount}
use Rattle.rustc_parse_format.specs.Syntax.{WidthText, PaddedWidth, ZeroIndexWidth, PlainWidth}
use Rattle.rustc_parse_format.specs.Syntax.{PrecisionText, NoPrecision, StarPrecision}
use Rattle.rustc_parse_format.specs.Syntax.{DotPrecision, FormatText, SpecText, Default, Formatting}
use Rattle.rustc_parse_format.specs.Syntax.{Modifier, DiagnosticText, FieldText, PieceText, RunText}
use Rattle.rustc_parse_format.specs.Syntax.{DoubledText, PlaceholderText, fill_part, align_part}
use Rattle.rustc_parse_format.specs.Syntax.{sign_part, alternate_part, type_part}
use Rattle.rustc_parse_format.specs.Values.{type_of}
use Rattle.format_tokens.specs.declared.kinds.Kind.{Kind}
use Rattle.format_tokens.specs.declared.kinds.Kind.TheVariants.{Text as TextKind, EscapedBrace}
use Rattle.format_tokens.specs.declared.kinds.Kind.TheVariants.{OpenBrace}
use Rattle.format_tokens.specs.declared.kinds.Kind.TheVariants.{CloseBrace}
use Rattle.format_tokens.specs.declared.kinds.Kind.TheVariants.{Integer, Identifier, RawPrefix}
use Rattle.format_tokens.specs.declared.kinds.Kind.TheVariants.{Whitespace}
use Rattle.format_tokens.specs.declared.kinds.Kind.TheVariants.{Colon, Fill, Alignment, Sign}
use Rattle.format_tokens.specs.declared.kinds.Kind.TheVariants.{NumberSign}
use Rattle.format_tokens.specs.declared.kinds.Kind.TheVariants.{Zero, DollarSign, Dot, Asterisk}
use Rattle.format_tokens.specs.declared.kinds.Kind.TheVariants.{«Type» as TypeKind}
use Rattle.format_tokens.specs.declared.kinds.Kind.TheVariants.{Modifier as ModifierKind}
use Rattle.format_tokens.specs.declared.kinds.Kind.TheVariants.{DiagnosticText as DiagnosticKind}
use Rattle.format_tokens.specs.declared.kinds.Kind.TheVariants.{Unexpected}

-- A token: its kind and its characters.
abbrev pub Label : Type 0
Label = Kind × Text

-- The token of a text. The empty text has none.
abbrev pub token : Kind → Text → List Label
token k [] = []
token k (c ∷ u) = (k, c ∷ u) ∷ []

-- The kind of a word that is a name, a type or a modifier. A lone `_` is none of these.
abbrev pub word_kind : Kind → Text → Kind
word_kind k w = if bytes_eq w (codes "_") then Unexpected else k

-- The kind of the digits of an integer. Above 65535 it does not fit.
abbrev pub integer_kind : Text → Kind
integer_kind ds = if is_over ds then Unexpected else Integer

-- argument := integer | identifier. A raw identifier is its prefix and the identifier.
abbrev pub position_tokens : PositionText → List Label
position_tokens (Digits ds) = token (integer_kind ds) ds
position_tokens (Word w) = token (word_kind Identifier w) w
position_tokens (RawWord w) = token RawPrefix (codes "r#") ++ token (word_kind Identifier w) w
position_tokens NoPosition = []

-- count := integer | parameter, parameter := argument '$'
abbrev pub count_tokens : CountText → List Label
count_tokens (NumberCount ds) = token (integer_kind ds) ds
count_tokens (IndexCount ds) = token (integer_kind ds) ds ++ token DollarSign (codes "$")
count_tokens (NameCount w) = token (word_kind Identifier w) w ++ token DollarSign (codes "$")
count_tokens NoCount = []

-- ['0'] [width], width := count
abbrev pub width_tokens : WidthText → List Label
width_tokens (PaddedWidth k) = token Zero (codes "0") ++ count_tokens k
width_tokens ZeroIndexWidth = token Integer (codes "0") ++ token DollarSign (codes "$")
width_tokens (PlainWidth k) = count_tokens k

-- ['.' precision], precision := count | '*'
abbrev pub precision_tokens : PrecisionText → List Label
precision_tokens NoPrecision = []
precision_tokens StarPrecision = token Dot (codes ".") ++ token Asterisk (codes "*")
precision_tokens (DotPrecision k) = token Dot (codes ".") ++ count_tokens k

-- format_spec := [[fill]align][sign]['#']['0'][width]['.' precision]type
abbrev pub format_tokens : FormatText → List Label
format_tokens p = token Fill (fill_part p.fill).spelling
    ++ (token Alignment (align_part p.align).spelling
    ++ (token Sign (sign_part p.sign).spelling
    ++ (token NumberSign (alternate_part p.alternate).spelling
    ++ (width_tokens p.width
    ++ (precision_tokens p.precision
    ++ token (word_kind TypeKind (type_of p.type)) (type_part p.type).spelling)))))

-- [ ':' format_spec ], or after the colon the text that the mode allows.
abbrev pub spec_tokens : SpecText → List Label
spec_tokens Default = []
spec_tokens (Formatting p) = token Colon (codes ":") ++ format_tokens p
spec_tokens (Modifier w) = token Colon (codes ":") ++ token (word_kind ModifierKind w) w
spec_tokens (DiagnosticText u) = token Colon (codes ":") ++ token DiagnosticKind u

-- A field: a position, white space and a specification.
abbrev pub field_tokens : FieldText → List Label
field_tokens a = position_tokens a.position ++ (token Whitespace a.space ++ spec_tokens a.spec)

-- An opening brace, a field, and the white space after it.
abbrev pub opened_tokens : FieldText → Text → List Label
opened_tokens a space = token OpenBrace (codes "{") ++ (field_tokens a ++ token Whitespace space)

-- format_string := text [ maybe_format text ] *, maybe_format := '{' '{' | '}' '}' | format
abbrev pub piece_tokens : PieceText → List Label
piece_tokens (RunText u) = token TextKind u
piece_tokens (DoubledText b u) = token EscapedBrace (b ∷ b ∷ []) ++ token TextKind u
piece_tokens (PlaceholderText a space) = opened_tokens a space ++ token CloseBrace (codes "}")

-- The tokens of pieces, one after the other.
abbrev pub pieces_tokens : List PieceText → List Label
pieces_tokens xs = flat_map piece_tokens xs

-- The characters of tokens, one after the other.
abbrev pub joined_text : List Label → Text
joined_text ls = flat_map (λ (l : Label). l.1) ls
