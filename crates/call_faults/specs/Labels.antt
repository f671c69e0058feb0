-- The labels of faults, in rustc's words and order, as bytes.
use Rattle.std.specs.Prelude.{ℕ, suc, ◌==◌, ◌++◌, ◌&&◌, Bool, true}
use Rattle.std.specs.Prelude.{false, if◌then◌else◌, List, [], ◌∷◌}
use Rattle.std.specs.Prelude.{map, not, length, codes, decimal, Option, Some, None, is_some}
use Rattle.std.specs.List.{list_any, slice_get}
use Rattle.rustc_parse_format.specs.Characters.{Text}
use Rattle.rustc_parse_format.specs.Faults.{Message, message, Suggestion, Nothing, UsePositional}
use Rattle.rustc_parse_format.specs.Faults.{RemoveRawIdent, ReorderFormatParameter, AddMissingColon}
use Rattle.rustc_parse_format.specs.Faults.{UseRustDebugPrintingMacro}
use Rattle.rustc_parse_format.specs.Types.{Argument, Count, Implied, Index, Implicit, Is, Lit, Name}
use Rattle.rustc_parse_format.specs.Types.{Named, NextArgument, Param, Piece, Position, Spec, Star}
use Rattle.rustc_parse_format.specs.World.{Place}
use Rattle.call_faults.specs.Arguments.{FormatArgument}
use Rattle.call_faults.specs.CallFaults.{CallFault, PositionalAfterNamed, RepeatedName, TextFault}
use Rattle.call_faults.specs.CallFaults.{MissingName, UnknownTrait, MissingArguments}
use Rattle.call_faults.specs.CallFaults.{UnusedArguments, RedundantArguments, NameUsedByIndex}
use Rattle.text_faults.specs.Spots.{Label, bytes_at, primary}
use Rattle.call_faults.specs.Spots.{rest_after, named_spot, reference_spot}
use Rattle.text_faults.specs.Spots.{secondary}
use Rattle.call_faults.specs.Spots.{spot_of, type_spot, use_spot}
use Rattle.call_faults.specs.Words.{has_number, name_of, never_used}
use Rattle.text_faults.specs.Words.{quoted_name}
use Rattle.call_faults.specs.declared.faults.Reference.{Reference}
use Rattle.text_faults.specs.declared.spots.Spot.TheVariants.{Argument as WholeArgument}
use Rattle.text_faults.specs.declared.spots.Spot.TheVariants.{Name as NameOf}
use Rattle.text_faults.specs.declared.spots.Spot.TheVariants.{Value, ValueUpToNext, Literal}

-- A call as the messages of its faults need it: the arguments that are given, and the indices of
-- those that count; the pieces, and of each how many placeholders stand before it; the places of
-- these; how many arguments they take one after the other; and the faults.
pub record Call : Type 0 where
  pub arguments : List FormatArgument
  pub kept : List ℕ
  pub pieces : List (Piece Place)
  pub counts : List ℕ
  pub places : List Place
  pub total : ℕ
  pub faults : List CallFault

-- The label of a second range of an error whose range is s. It is primary if it has that range.
abbrev pub second_label : Place → Place → List ℕ → Label
second_label s r t = record {
  spot = bytes_at r;
  is_primary = (r.0 == s.0) && (r.1 == s.1);
  text = t;
}

-- A help that is drawn as a label of the place where it removes or inserts something.
abbrev pub inline_help : Place → Suggestion Place → List Label
inline_help s Nothing = []
inline_help s UsePositional = []
inline_help s (RemoveRawIdent r) = second_label s r (codes "help: remove the `r#`") ∷ []
inline_help s (ReorderFormatParameter r t) = []
inline_help s (AddMissingColon r) =
    second_label s r (codes "help: add a colon before the format specifier: `:?`") ∷ []
inline_help s UseRustDebugPrintingMacro = []

-- The second label of an error of the string.
abbrev pub second_labels : Place → Option (List ℕ × Place) → Suggestion Place → List Label
second_labels s None g = inline_help s g
second_labels s (Some x) g = second_label s x.1 x.0 ∷ []

-- The labels of an error of the string.
abbrev pub text_labels : Message Place → List Label
text_labels m = primary (bytes_at m.span) (m.label ++ codes " in format string")
    ∷ second_labels m.span m.second m.suggestion

-- The position is the next argument.
abbrev pub is_next : Position → Bool
is_next (Implicit n) = true
is_next (Index n) = false
is_next (Named w) = false

-- The index of the argument that a precision takes by `*`.
abbrev pub star_of : Count Place → Option ℕ
star_of (Is n) = None
star_of (Name w s) = None
star_of (Param n) = None
star_of (Star n) = Some n
star_of Implied = None

-- The label of a placeholder that takes the next argument, if it does.
abbrev pub next_label : Piece Place → List Place → List Label
next_label (Lit t) places = []
next_label (NextArgument a) places =
    if is_next a.position then primary (spot_of (slice_get places 0)) [] ∷ [] else []

-- The labels of those of these pieces that take the next argument.
abbrev pub next_labels : List (Piece Place) → List Place → List Label
next_labels [] places = []
next_labels (p ∷ ps) places = next_label p places ++ next_labels ps (rest_after p places)

-- How many arguments are expected.
abbrev pub expected_count : ℕ → List ℕ
expected_count n = if n == 1 then codes "is 1 argument"
    else codes "are " ++ (decimal n ++ codes " arguments")

-- The label of a precision that takes the argument n by `*`, where this many are taken in all.
abbrev pub star_text : ℕ → ℕ → List ℕ
star_text n total = codes "this precision flag adds an extra required argument at position "
    ++ (decimal n ++ (codes ", which is why there " ++ (expected_count total ++ codes " expected")))

-- The label of the precision of a placeholder, if it takes an argument by `*`. It is primary unless
-- the placeholder is, which then takes an argument too.
abbrev pub star_at : ℕ → Option ℕ → Argument Place → List Label
star_at total None a = []
star_at total (Some n) a = record {
  spot = spot_of a.format.precision_span;
  is_primary = not (is_next a.position);
  text = star_text n total;
} ∷ []

-- The label of the precision of a piece, if it takes an argument by `*`.
abbrev pub star_label : ℕ → Piece Place → List Label
star_label total (Lit t) = []
star_label total (NextArgument a) = star_at total (star_of a.format.precision) a

-- The labels of the precisions of these pieces that take arguments by `*`.
abbrev pub star_labels : ℕ → List (Piece Place) → List Label
star_labels total [] = []
star_labels total (p ∷ ps) = star_label total p ++ star_labels total ps

-- The labels of too few arguments, where none is referred to by a number that is written: those
-- that count, the precisions, and the placeholders.
abbrev pub few_labels : Call → List Label
few_labels c =
    map (λ i. secondary (Value i) []) c.kept
    ++ (star_labels c.total c.pieces ++ next_labels c.pieces c.places)

-- The labels of arguments that are not used.
abbrev pub unused_labels : List FormatArgument → List ℕ → List Label
unused_labels gs is = map (λ i. primary (Value i) (never_used (slice_get gs i))) is

-- The label of a literal that lacks a placeholder.
unfoldable pub single_text : List ℕ
single_text = codes "formatting specifier missing"

-- The labels of an argument that is not used, and that of the literal.
abbrev pub one_unused : List FormatArgument → ℕ → List Label
one_unused gs i =
    primary (Value i) (never_used (slice_get gs i)) ∷ secondary Literal single_text ∷ []

-- The label of a literal that lacks several placeholders.
unfoldable pub several_text : List ℕ
several_text = codes "multiple missing formatting specifiers"

-- The labels of several arguments that are not used, and that of the literal.
abbrev pub many_unused : List FormatArgument → List ℕ → List Label
many_unused gs is =
    secondary Literal several_text ∷ unused_labels gs is

-- The labels of arguments that are not used, and that of the literal, which has no placeholder for
-- them.
abbrev pub unused_and_literal : List FormatArgument → List ℕ → List Label
unused_and_literal gs [] = many_unused gs []
unused_and_literal gs (i ∷ []) = one_unused gs i
unused_and_literal gs (i ∷ j ∷ is) = many_unused gs (i ∷ j ∷ is)

-- One of these arguments has a name.
abbrev pub have_names : List FormatArgument → Bool
have_names gs = list_any (λ g. is_some g.name) gs

-- The argument is the last one.
abbrev pub is_last : List FormatArgument → ℕ → Bool
is_last gs i = suc i == length gs

-- The label of an argument that is left out.
unfoldable pub removal_text : List ℕ
removal_text = codes "help: this can be removed"

-- The labels of an argument that is left out, which is not the last one.
abbrev pub removal_up_to_next : ℕ → List Label
removal_up_to_next i =
    secondary (ValueUpToNext i) removal_text ∷ primary (Value i) [] ∷ []

-- The labels of an argument that is left out.
abbrev pub removal_labels : List FormatArgument → ℕ → List Label
removal_labels gs i = if is_last gs i then primary (Value i) removal_text ∷ []
    else removal_up_to_next i

-- The labels of redundant arguments. The label of one alone says that it can be removed, unless
-- any argument
-- has a name.
abbrev pub redundant_labels : List FormatArgument → List ℕ → List Label
redundant_labels gs [] = []
redundant_labels gs (i ∷ []) =
    if have_names gs then primary (Value i) [] ∷ [] else removal_labels gs i
redundant_labels gs (i ∷ j ∷ is) = map (λ k. primary (Value k) []) (i ∷ j ∷ is)

-- The label of an argument with a name that is used by its index.
unfoldable pub by_index_text : List ℕ
by_index_text =
    codes "this named argument is referred to by position in formatting string"

-- The label of the use by index of an argument with this name.
unfoldable pub use_text : Text → List ℕ
use_text w = codes "this formatting argument uses named argument "
    ++ (quoted_name w ++ codes " by position")

-- The labels of a use by index of an argument with a name.
abbrev pub by_index_labels : Call → Reference → ℕ → List Label
by_index_labels c r i =
    primary (NameOf i) by_index_text
    ∷ secondary (use_spot c.pieces c.counts c.places r)
    (use_text (name_of (slice_get c.arguments i))) ∷ []

-- The label of an argument with a name in front of one without.
unfoldable pub named_text : List ℕ
named_text = codes "named argument"

-- The labels of a fault.
unfoldable pub labels : Call → CallFault → List Label
labels c (PositionalAfterNamed i ns) =
    primary (WholeArgument i) (codes "positional arguments must be before named arguments")
    ∷ map (λ n. secondary (WholeArgument n) named_text) ns
labels c (RepeatedName i f) =
    secondary (NameOf f) (codes "previously here")
    ∷ primary (NameOf i) (codes "duplicate argument") ∷ []
labels c (TextFault f) = text_labels (message f)
labels c (MissingName r w) = primary (named_spot c.pieces r) [] ∷ []
labels c (UnknownTrait k t) = primary (type_spot c.pieces k) [] ∷ []
labels c (MissingArguments ms) = if list_any has_number c.pieces
    then map (λ m. primary (reference_spot c.pieces m.reference) []) ms else few_labels c
labels c (UnusedArguments is) = unused_and_literal c.arguments is
labels c (RedundantArguments is) = redundant_labels c.arguments is
labels c (NameUsedByIndex r i) = by_index_labels c r i
