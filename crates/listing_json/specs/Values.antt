-- The JSON values of a listing: an object for each piece, each fault and each entry of a report.
-- Its key `kind` says which it is. The other keys are the names of the fields in
-- `rustc_parse_format`, and a part that is absent is null. All strings are in UTF-8.
use Rattle.std.specs.Prelude.{ℕ, List, [], ◌∷◌, ◌++◌, Option, Some, None, codes, decimal, map}
use Rattle.std.specs.Str.{encode_utf8_all}
use Rattle.json.specs.Json.{Json, null, boolean, number, string, object, Members, no_members}
use Rattle.json.specs.Json.{member}
use Rattle.rustc_parse_format.specs.Characters.{Text}
use Rattle.rustc_parse_format.specs.Types.{Alignment, Left, Right, Center, Unknown, Sign, Plus}
use Rattle.rustc_parse_format.specs.Types.{Minus, DebugHex, Lower, Upper, Position, Implicit, Index}
use Rattle.rustc_parse_format.specs.Types.{Named, Count, Is, Name, Param, Star, Implied, Spec}
use Rattle.rustc_parse_format.specs.Types.{Argument, Piece, Lit, NextArgument}
use Rattle.rustc_parse_format.specs.FaultIds.{fault_id}
use Rattle.rustc_parse_format.specs.Faults.{Fault, Message, Suggestion, Nothing, UsePositional}
use Rattle.rustc_parse_format.specs.Faults.{RemoveRawIdent, ReorderFormatParameter, AddMissingColon}
use Rattle.rustc_parse_format.specs.Faults.{UseRustDebugPrintingMacro, message}
use Rattle.rustc_parse_format.specs.World.{Place}
use Rattle.placeholder_check.specs.Report.{Report}

-- The value of a part that may be absent.
abbrev pub maybe_value : {A : Type 0} → (A → Json) → Option A → Json
maybe_value value None = null
maybe_value value (Some x) = value x

-- An object of this kind with further members.
abbrev pub object_of_kind : List ℕ → Members → Json
object_of_kind kind ms = object (member (codes "kind") (string kind) ms)

-- A number.
abbrev pub number_value : ℕ → Json
number_value n = number (decimal n)

-- A text.
abbrev pub text_value : Text → Json
text_value t = string (encode_utf8_all t)

-- A span: two byte offsets, the second of which is excluded.
abbrev pub span_value : Place → Json
span_value s = object (member (codes "start") (number_value s.0)
    (member (codes "end") (number_value s.1) no_members))

-- An object of this kind with the index of an argument.
abbrev pub index_value : List ℕ → ℕ → Json
index_value kind n = object_of_kind kind (member (codes "index") (number_value n) no_members)

-- An object of this kind with the name of an argument.
abbrev pub name_value : List ℕ → Text → Json
name_value kind w = object_of_kind kind (member (codes "name") (text_value w) no_members)

-- A position.
abbrev pub position_value : Position → Json
position_value (Implicit n) = index_value (codes "implicit") n
position_value (Index n) = index_value (codes "index") n
position_value (Named w) = name_value (codes "name") w

-- A width or a precision.
abbrev pub count_value : Count Place → Json
count_value (Is n) = object_of_kind (codes "number")
    (member (codes "value") (number_value n) no_members)
count_value (Name w s) = object_of_kind (codes "name") (member (codes "name") (text_value w)
    (member (codes "span") (span_value s) no_members))
count_value (Param n) = index_value (codes "index") n
count_value (Star n) = index_value (codes "star") n
count_value Implied = null

-- A fill character.
abbrev pub fill_value : ℕ → Json
fill_value c = text_value (c ∷ [])

-- An alignment.
abbrev pub align_value : Alignment → Json
align_value Left = string (codes "left")
align_value Right = string (codes "right")
align_value Center = string (codes "center")
align_value Unknown = null

-- A sign flag.
abbrev pub sign_value : Sign → Json
sign_value Plus = string (codes "plus")
sign_value Minus = string (codes "minus")

-- The case of hexadecimal digits.
abbrev pub hex_value : DebugHex → Json
hex_value Lower = string (codes "lower")
hex_value Upper = string (codes "upper")

-- A format specification.
abbrev pub format_value : Spec Place → Json
format_value f = object (member (codes "fill") (maybe_value fill_value f.fill)
    (member (codes "fill_span") (maybe_value span_value f.fill_span)
    (member (codes "align") (align_value f.align)
    (member (codes "sign") (maybe_value sign_value f.sign)
    (member (codes "alternate") (boolean f.alternate)
    (member (codes "zero_pad") (boolean f.zero_pad)
    (member (codes "debug_hex") (maybe_value hex_value f.debug_hex)
    (member (codes "precision") (count_value f.precision)
    (member (codes "precision_span") (maybe_value span_value f.precision_span)
    (member (codes "width") (count_value f.width)
    (member (codes "width_span") (maybe_value span_value f.width_span)
    (member (codes "ty") (text_value f.ty)
    (member (codes "ty_span") (maybe_value span_value f.ty_span) no_members)))))))))))))

-- A run of text.
abbrev pub run_value : Text → Json
run_value t = object_of_kind (codes "text") (member (codes "text") (text_value t) no_members)

-- A placeholder.
abbrev pub placeholder_value : Argument Place → Json
placeholder_value a = object_of_kind (codes "placeholder")
    (member (codes "position") (position_value a.position)
    (member (codes "position_span") (span_value a.position_span)
    (member (codes "format") (format_value a.format) no_members)))

-- A piece.
abbrev pub piece_value : Piece Place → Json
piece_value (Lit t) = run_value t
piece_value (NextArgument a) = placeholder_value a

-- A suggestion of this kind for a span.
abbrev pub mend_value : List ℕ → Place → Json
mend_value kind s = object_of_kind kind (member (codes "span") (span_value s) no_members)

-- A suggestion.
abbrev pub suggestion_value : Suggestion Place → Json
suggestion_value Nothing = null
suggestion_value UsePositional = object_of_kind (codes "use-positional") no_members
suggestion_value (RemoveRawIdent s) = mend_value (codes "remove-raw-ident") s
suggestion_value (ReorderFormatParameter s w) = object_of_kind (codes "reorder-format-parameter")
    (member (codes "span") (span_value s) (member (codes "text") (string w) no_members))
suggestion_value (AddMissingColon s) = mend_value (codes "add-missing-colon") s
suggestion_value UseRustDebugPrintingMacro =
    object_of_kind (codes "use-rust-debug-printing-macro") no_members

-- A second label and its span.
abbrev pub label_value : List ℕ × Place → Json
label_value x = object (member (codes "label") (string x.0)
    (member (codes "span") (span_value x.1) no_members))

-- The error of a fault with this id.
abbrev pub error_value : List ℕ → Message Place → Json
error_value id m = object_of_kind (codes "fault") (member (codes "id") (string id)
    (member (codes "description") (string m.description)
    (member (codes "note") (maybe_value string m.note)
    (member (codes "label") (string m.label)
    (member (codes "span") (span_value m.span)
    (member (codes "secondary_label") (maybe_value label_value m.second)
    (member (codes "suggestion") (suggestion_value m.suggestion) no_members)))))))

-- A fault.
abbrev pub fault_value : Fault Place → Json
fault_value f = error_value (fault_id f) (message f)

-- The entries of a report.
unfoldable pub report_values : Report → List Json
report_values r =
    map (index_value (codes "missing-index")) r.missing_index
    ++ (map (name_value (codes "missing-name")) r.missing_name
    ++ (map (index_value (codes "unused-index")) r.unused_index
    ++ map (name_value (codes "unused-name")) r.unused_name))
