-- The notes and helps of faults, in rustc's words and order, as bytes.
use Rattle.std.specs.Prelude.{ℕ, suc, ◌==◌, ◌++◌, ◌&&◌, ◌||◌, Bool, true, false, not}
use Rattle.std.specs.Prelude.{if◌then◌else◌, List, [], ◌∷◌, map, length, codes, decimal}
use Rattle.std.specs.Prelude.{Option, Some, None, is_some, nat_lt, option_and_then, zero}
use Rattle.std.specs.Option.{option_map_or}
use Rattle.std.specs.List.{cons_option, filter_map, list_any, slice_get}
use Rattle.std.specs.Str.{bytes_eq, encode_utf8_all}
use Rattle.rustc_parse_format.specs.Characters.{Text}
use Rattle.rustc_parse_format.specs.Faults.{Message, message, Suggestion, Nothing, UsePositional}
use Rattle.rustc_parse_format.specs.Faults.{RemoveRawIdent, ReorderFormatParameter, AddMissingColon}
use Rattle.rustc_parse_format.specs.Faults.{UseRustDebugPrintingMacro}
use Rattle.rustc_parse_format.specs.Types.{Alignment, Argument, Center, Count, Implied, Index}
use Rattle.rustc_parse_format.specs.Types.{Implicit, Is, Left, Lit, Name, Named, NextArgument}
use Rattle.rustc_parse_format.specs.Types.{Param, Piece, Position, Right, Spec, Star, Unknown}
use Rattle.rustc_parse_format.specs.World.{Place}
use Rattle.call_faults.specs.Arguments.{FormatArgument}
use Rattle.call_faults.specs.CallFaults.{CallFault, PositionalAfterNamed, RepeatedName, TextFault}
use Rattle.call_faults.specs.CallFaults.{MissingName, UnknownTrait, MissingArguments}
use Rattle.call_faults.specs.CallFaults.{UnusedArguments, RedundantArguments, NameUsedByIndex}
use Rattle.call_faults.specs.Directives.{holds_directive}
use Rattle.call_faults.specs.Labels.{Call, have_names, is_last, star_of}
use Rattle.call_faults.specs.Spots.{Edit, Help, Note, edit, index_spot, plain_note}
use Rattle.text_faults.specs.Spots.{bytes_at}
use Rattle.call_faults.specs.Words.{has_number, name_of, plural}
use Rattle.text_faults.specs.Words.{quoted_name}
use Rattle.call_faults.specs.declared.faults.Part.{Part}
use Rattle.call_faults.specs.declared.faults.Part.TheVariants.{Position as PositionPart}
use Rattle.call_faults.specs.declared.faults.Part.TheVariants.{Precision as PrecisionPart}
use Rattle.call_faults.specs.declared.faults.Part.TheVariants.{Width as WidthPart}
use Rattle.call_faults.specs.declared.faults.Reference.{Reference}
use Rattle.text_faults.specs.declared.spots.Spot.{Spot}
use Rattle.text_faults.specs.declared.spots.Spot.TheVariants.{Value, ValueUpToNext, Literal}
use Rattle.text_faults.specs.declared.spots.Spot.TheVariants.{LiteralEnd, AfterLiteral, ValueEnd}
use Rattle.text_faults.specs.declared.spots.Spot.TheVariants.{Call as WholeCall}

-- The note of an error of the string.
abbrev pub text_notes : Option (List ℕ) → List Note
text_notes None = []
text_notes (Some t) = plain_note t ∷ []

-- The first note of a name that no argument has.
unfoldable pub capture_text : Text → List ℕ
capture_text w = codes "did you intend to capture a variable "
    ++ (quoted_name w ++ codes " from the surrounding scope?")

-- The note of a name, where no variable is captured.
unfoldable pub ambiguity_text : List ℕ
ambiguity_text = codes "to avoid ambiguity, `format_args!` cannot capture variables when the format string is expanded from a macro"

-- The note on the traits that a placeholder may want, each on a line.
unfoldable pub traits_text : List ℕ
traits_text =
    codes "the only appropriate formatting traits are:\n"
    ++ (codes "- ``, which uses the `Display` trait\n"
    ++ (codes "- `?`, which uses the `Debug` trait\n"
    ++ (codes "- `e`, which uses the `LowerExp` trait\n"
    ++ (codes "- `E`, which uses the `UpperExp` trait\n"
    ++ (codes "- `o`, which uses the `Octal` trait\n"
    ++ (codes "- `p`, which uses the `Pointer` trait\n"
    ++ (codes "- `b`, which uses the `Binary` trait\n"
    ++ (codes "- `x`, which uses the `LowerHex` trait\n"
    ++ codes "- `X`, which uses the `UpperHex` trait"))))))))

-- A width or a precision is given.
abbrev pub is_given : Count Place → Bool
is_given (Is n) = true
is_given (Name w s) = true
is_given (Param n) = true
is_given (Star n) = true
is_given Implied = false

-- An alignment is given.
abbrev pub is_aligned : Alignment → Bool
is_aligned Left = true
is_aligned Right = true
is_aligned Center = true
is_aligned Unknown = false

-- A specification has more than a trait.
abbrev pub has_flags : Spec Place → Bool
has_flags s =
    ((is_some s.fill || is_aligned s.align) || (is_some s.sign || s.alternate))
    || ((s.zero_pad || is_some s.debug_hex) || (is_given s.width || is_given s.precision))

-- A placeholder has more than a trait.
abbrev pub is_flagged : Piece Place → Bool
is_flagged (Lit t) = false
is_flagged (NextArgument a) = has_flags a.format

-- A piece takes an argument by `*`.
abbrev pub has_star : Piece Place → Bool
has_star (Lit t) = false
has_star (NextArgument a) = is_some (star_of a.format.precision)

-- This note, if the test holds.
abbrev pub note_if : Bool → List ℕ → List Note
note_if b t = if b then plain_note t ∷ [] else []

-- The note on how arguments are counted.
unfoldable pub count_note : List ℕ
count_note = codes "positional arguments are zero-based"

-- The note on the flags that a placeholder may have.
unfoldable pub flags_note : List ℕ
flags_note =
    codes "for information about formatting flags, visit https://doc.rust-lang.org/std/fmt/index.html"

-- The notes of missing arguments.
abbrev pub missing_notes : List (Piece Place) → List Note
missing_notes ps =
    note_if (list_any has_number ps || list_any has_star ps) count_note
    ++ note_if (list_any is_flagged ps) flags_note

-- The fault is that arguments are missing.
abbrev pub are_missing : CallFault → Bool
are_missing (PositionalAfterNamed i ns) = false
are_missing (RepeatedName i f) = false
are_missing (TextFault f) = false
are_missing (MissingName r w) = false
are_missing (UnknownTrait k t) = false
are_missing (MissingArguments ms) = true
are_missing (UnusedArguments is) = false
are_missing (RedundantArguments is) = false
are_missing (NameUsedByIndex r i) = false

-- So many placeholders, in words.
abbrev pub specifiers : ℕ → List ℕ
specifiers n = if n == 1 then codes "a format specifier"
    else decimal n ++ codes " format specifiers"

-- So many placeholders.
abbrev pub placeholders : ℕ → List ℕ
placeholders zero = []
placeholders (suc n) = codes "{}" ++ placeholders n

-- The note of unused arguments: what to add where some arguments are used, two or more are not, and
-- none is missing.
abbrev pub unused_notes : Call → ℕ → List Note
unused_notes c n = note_if
    (not (list_any are_missing c.faults) && (not (n == length c.kept) && nat_lt 1 n))
    (codes "consider adding " ++ specifiers n)

-- The help for unused arguments, where none is used, none is missing, and the string has no
-- directive of another language: as many placeholders at the end of the literal.
abbrev pub unused_help : Call → ℕ → Option Help
unused_help c n =
    if not (list_any are_missing c.faults) && n == length c.kept
    && not (list_any holds_directive c.pieces) then Some (record {
      text = codes "format specifiers use curly braces, consider adding " ++ specifiers n;
      edits = edit LiteralEnd (placeholders n) ∷ [];
    }) else None

-- The variable that an argument is, if it is one.
abbrev pub variable_of : List FormatArgument → ℕ → Option Text
variable_of gs i = option_and_then (λ g. g.variable) (slice_get gs i)

-- The argument is this variable.
abbrev pub is_variable : List FormatArgument → Text → ℕ → Bool
is_variable gs w i = option_map_or (bytes_eq w) (variable_of gs i) false

-- The position is a name that passes the test.
abbrev pub is_name : (Text → Bool) → Position → Bool
is_name f (Implicit n) = false
is_name f (Index n) = false
is_name f (Named w) = f w

-- The place of the position of a piece, if that is a name which passes the test.
abbrev pub named_position : (Text → Bool) → Piece Place → List Spot
named_position f (Lit t) = []
named_position f (NextArgument a) =
    if is_name f a.position then bytes_at a.position_span ∷ [] else []

-- These places of these pieces.
abbrev pub named_positions : (Text → Bool) → List (Piece Place) → List Spot
named_positions f [] = []
named_positions f (p ∷ ps) = named_position f p ++ named_positions f ps

-- The text of the note of so many redundant arguments.
abbrev pub redundant_text : ℕ → List ℕ
redundant_text n = if n == 1
    then codes "the formatting specifier is referencing the binding already"
    else codes "the formatting specifiers are referencing the bindings already"

-- The note of redundant arguments: the placeholders that have them.
abbrev pub redundant_note : Call → List ℕ → Note
redundant_note c is = record {
  text = redundant_text (length is);
  spots = named_positions (λ w. list_any (is_variable c.arguments w) is) c.pieces;
}

-- The place that is removed with an argument that is left out: its value, and what is after it up
-- to the next one, if there is one.
abbrev pub removed_spot : List FormatArgument → ℕ → Spot
removed_spot gs i = if is_last gs i then Value i else ValueUpToNext i

-- The edit that removes an argument.
abbrev pub removal : List FormatArgument → ℕ → Edit
removal gs i = edit (removed_spot gs i) []

-- The help for several redundant arguments. For one alone it is a label.
abbrev pub redundant_help : List FormatArgument → List ℕ → Option Help
redundant_help gs is = if nat_lt 1 (length is) && not (have_names gs) then Some (record {
  text = codes "this can be removed";
  edits = map (removal gs) is;
}) else None

-- The text after a name in a part of a placeholder.
abbrev pub after_name : Part → List ℕ
after_name PositionPart = []
after_name PrecisionPart = codes "$"
after_name WidthPart = codes "$"

-- The name of an argument as a part of a placeholder has it.
abbrev pub name_in : Part → Text → List ℕ
name_in p w = encode_utf8_all w ++ after_name p

-- The help for a use by index: the name in its place.
abbrev pub by_index_help : Call → Reference → ℕ → Help
by_index_help c r i = record {
  text = codes "use the named argument by name to avoid ambiguity";
  edits = edit (index_spot c.pieces r) (name_in r.part (name_of (slice_get c.arguments i))) ∷ [];
}

-- The help that puts a text in the place of another one.
abbrev pub replacement : Spot → List ℕ → Help
replacement s t = record {
  text = codes "did you mean `" ++ (t ++ codes "`?");
  edits = edit s t ∷ [];
}

-- How many of these arguments stand before the first one with a name.
abbrev pub unnamed_count : List FormatArgument → ℕ
unnamed_count [] = 0
unnamed_count (g ∷ gs) = if is_some g.name then 0 else suc (unnamed_count gs)

-- Where an argument without a name is added, if there are so many already: after the last of these.
abbrev pub added_spot : ℕ → Spot
added_spot zero = AfterLiteral
added_spot (suc n) = ValueEnd n

-- The help for an expression at this place of the string: it becomes an argument.
abbrev pub positional_help : List FormatArgument → Place → Help
positional_help gs s = record {
  text = codes "consider using a positional formatting argument instead";
  edits = edit (bytes_at s) (decimal (unnamed_count gs)) ∷ record {
    spot = added_spot (unnamed_count gs);
    text = codes ", ";
    copied = Some (bytes_at s);
    rest = [];
  } ∷ [];
}

-- The help for `=` after the only argument: the macro that shows an expression and its value.
abbrev pub debug_help : List ℕ → Option Help
debug_help [] = None
debug_help (i ∷ []) = Some (record {
  text = codes "use rust debug printing macro";
  edits = record {
    spot = WholeCall;
    text = codes "dbg!(";
    copied = Some (Value i);
    rest = codes ")";
  } ∷ [];
})
debug_help (i ∷ j ∷ is) = None

-- The help for an error of the string at this place, with this suggestion.
abbrev pub suggestion_help : Call → Place → Suggestion Place → Option Help
suggestion_help c s Nothing = None
suggestion_help c s UsePositional = Some (positional_help c.arguments s)
suggestion_help c s (RemoveRawIdent r) = None
suggestion_help c s (ReorderFormatParameter r t) = Some (replacement (bytes_at r) t)
suggestion_help c s (AddMissingColon r) = None
suggestion_help c s UseRustDebugPrintingMacro = debug_help c.kept

-- The help for an error of the string, if it is no label.
abbrev pub text_help : Call → Message Place → Option Help
text_help c m = suggestion_help c m.span m.suggestion

-- The notes of a fault.
unfoldable pub notes : Call → CallFault → List Note
notes c (PositionalAfterNamed i ns) = []
notes c (RepeatedName i f) = []
notes c (TextFault f) = text_notes (message f).note
notes c (MissingName r w) = plain_note (capture_text w) ∷ plain_note ambiguity_text ∷ []
notes c (UnknownTrait k t) = plain_note traits_text ∷ []
notes c (MissingArguments ms) = missing_notes c.pieces
notes c (UnusedArguments is) = unused_notes c (length is)
notes c (RedundantArguments is) = redundant_note c is ∷ []
notes c (NameUsedByIndex r i) = []

-- The help of a fault, if it has one that is no label.
unfoldable pub help : Call → CallFault → Option Help
help c (PositionalAfterNamed i ns) = None
help c (RepeatedName i f) = None
help c (TextFault f) = text_help c (message f)
help c (MissingName r w) = None
help c (UnknownTrait k t) = None
help c (MissingArguments ms) = None
help c (UnusedArguments is) = unused_help c (length is)
help c (RedundantArguments is) = redundant_help c.arguments is
help c (NameUsedByIndex r i) = Some (by_index_help c r i)
