-- The listing of pieces, errors and a report, as bytes. It has a line for each piece, each error
-- and each entry of the report.
use Rattle.std.specs.Prelude.{ℕ, Bool, true, false, List, [], ◌∷◌, ◌++◌, Option, Some, None}
use Rattle.std.specs.Prelude.{flat_map, codes, decimal}
use Rattle.std.specs.Str.{encode_utf8_all}
use Rattle.rustc_parse_format.specs.Characters.{Text}
use Rattle.rustc_parse_format.specs.Escaping.{written_character}
use Rattle.rustc_parse_format.specs.Types.{Alignment, Left, Right, Center, Unknown, Sign, Plus}
use Rattle.rustc_parse_format.specs.Types.{Minus, DebugHex, Lower, Upper, Position, Implicit, Index}
use Rattle.rustc_parse_format.specs.Types.{Named}
use Rattle.rustc_parse_format.specs.Types.{Count, Is, Name, Param, Star, Implied, Spec, Piece, Lit}
use Rattle.rustc_parse_format.specs.Types.{NextArgument}
use Rattle.rustc_parse_format.specs.Faults.{Message}
use Rattle.rustc_parse_format.specs.World.{Place}
use Rattle.placeholder_check.specs.Report.{Report}

-- A text between quotes, each character written as `written_character` says.
abbrev pub quoted_text : Text → List ℕ
quoted_text t = codes "\"" ++ (flat_map written_character t ++ codes "\"")

-- A span: its two offsets with `..` between them.
abbrev pub span_text : Place → List ℕ
span_text s = decimal s.0 ++ (codes ".." ++ decimal s.1)

-- A span after the part that it belongs to.
abbrev pub at_span : Place → List ℕ
at_span s = codes "@" ++ span_text s

-- An optional span after the part that it belongs to. Without a span nothing is written.
abbrev pub at_entry : Option Place → List ℕ
at_entry None = []
at_entry (Some s) = at_span s

-- A position without its span.
abbrev pub position_text : Position → List ℕ
position_text (Implicit n) = codes "implicit " ++ decimal n
position_text (Index n) = codes "index " ++ decimal n
position_text (Named w) = codes "name " ++ encode_utf8_all w

-- A count, with the span of its name.
abbrev pub count_text : Count Place → List ℕ
count_text (Is n) = codes "is:" ++ decimal n
count_text (Name w s) = codes "name:" ++ (encode_utf8_all w ++ at_span s)
count_text (Param n) = codes "param:" ++ decimal n
count_text (Star n) = codes "star:" ++ decimal n
count_text Implied = codes "implied"

-- The entry of a fill. Each entry of a specification begins with a space, and an absent part has no
-- entry.
abbrev pub fill_entry : Option ℕ → Option Place → List ℕ
fill_entry None s = []
fill_entry (Some c) s = codes " fill=" ++ (quoted_text (c ∷ []) ++ at_entry s)

-- The entry of an alignment.
abbrev pub align_entry : Alignment → List ℕ
align_entry Left = codes " align=left"
align_entry Right = codes " align=right"
align_entry Center = codes " align=center"
align_entry Unknown = []

-- The entry of a sign.
abbrev pub sign_entry : Option Sign → List ℕ
sign_entry None = []
sign_entry (Some Plus) = codes " sign=+"
sign_entry (Some Minus) = codes " sign=-"

-- The entry of a flag, if it is set.
abbrev pub flag_entry : Bool → List ℕ → List ℕ
flag_entry true name = name
flag_entry false name = []

-- The entry of a count, with the span of its part.
abbrev pub count_entry : List ℕ → Count Place → Option Place → List ℕ
count_entry name k s = name ++ (count_text k ++ at_entry s)

-- The entry of a width, with its span.
abbrev pub width_entry : Count Place → Option Place → List ℕ
width_entry Implied s = []
width_entry (Is n) s = count_entry (codes " width=") (Is n) s
width_entry (Name w r) s = count_entry (codes " width=") (Name w r) s
width_entry (Param n) s = count_entry (codes " width=") (Param n) s
width_entry (Star n) s = count_entry (codes " width=") (Star n) s

-- The entry of a precision. A precision that was written may still be implied, as after a dot
-- alone.
abbrev pub precision_entry : Option Place → Count Place → List ℕ
precision_entry None k = []
precision_entry (Some s) k = count_entry (codes " precision=") k (Some s)

-- The entry of the case of the hexadecimal digits.
abbrev pub hex_entry : Option DebugHex → List ℕ
hex_entry None = []
hex_entry (Some Lower) = codes " hex=lower"
hex_entry (Some Upper) = codes " hex=upper"

-- The entry of a type, with its span if it has one.
abbrev pub type_entry : Option Place → Text → List ℕ
type_entry None [] = []
type_entry None (c ∷ t) = codes " ty=" ++ quoted_text (c ∷ t)
type_entry (Some s) t = codes " ty=" ++ (quoted_text t ++ at_span s)

-- The entries of the fill, the alignment and the flags.
unfoldable pub flag_entries : Spec Place → List ℕ
flag_entries s =
    fill_entry s.fill s.fill_span ++ (align_entry s.align ++ (sign_entry s.sign
    ++ (flag_entry s.alternate (codes " alt") ++ flag_entry s.zero_pad (codes " zero"))))

-- The entries of the counts and the type.
unfoldable pub value_entries : Spec Place → List ℕ
value_entries s =
    width_entry s.width s.width_span ++ (precision_entry s.precision_span s.precision
    ++ (hex_entry s.debug_hex ++ type_entry s.ty_span s.ty))

-- The line of a piece.
abbrev pub piece_line : Piece Place → List ℕ
piece_line (Lit t) = codes "lit " ++ (quoted_text t ++ codes "\n")
piece_line (NextArgument a) =
    codes "arg " ++ (position_text a.position ++ (codes " " ++ (span_text a.position_span
    ++ (flag_entries a.format ++ (value_entries a.format ++ codes "\n")))))

-- The line of an error: its span and its description.
abbrev pub fault_line : Message Place → List ℕ
fault_line m = codes "fault " ++ (span_text m.span ++ (codes " " ++ (m.description ++ codes "\n")))

-- The line of a number in a report.
abbrev pub index_line : List ℕ → ℕ → List ℕ
index_line label n = label ++ (decimal n ++ codes "\n")

-- The line of a name in a report.
abbrev pub name_line : List ℕ → Text → List ℕ
name_line label w = label ++ (quoted_text w ++ codes "\n")

-- The lines of a report.
unfoldable pub report_lines : Report → List ℕ
report_lines r =
    flat_map (index_line (codes "missing index ")) r.missing_index
    ++ (flat_map (name_line (codes "missing name ")) r.missing_name
    ++ (flat_map (index_line (codes "unused index ")) r.unused_index
    ++ flat_map (name_line (codes "unused name ")) r.unused_name))

-- A line for each piece, then one for each error, and then those of the report.
abbrev pub listing : List (Piece Place) → List (Message Place) → Report → List ℕ
listing ps ms r = flat_map piece_line ps ++ (flat_map fault_line ms ++ report_lines r)
