-- The edits that a program may apply by itself to mend a fault of a file. The source of each is
-- the compiler's own suggestion, which it calls applicable by a machine. Two of these are left out:
-- an argument that can be removed, since a comma stays, and `dbg!` in the place of another macro.
use Rattle.std.specs.Prelude.{ℕ, Bool, true, false, not, ◌++◌, ◌&&◌, ◌||◌, if◌then◌else◌, List, []}
use Prim.Native.Char.{code}
use Rattle.std.specs.Prelude.{◌∷◌, ◌==◌, Option, Some, None, chars, codes, map, nat_le, nat_lt}
use Rattle.std.specs.Prelude.{option_map, string_bytes}
use Rattle.std.specs.Char.{is_whitespace}
use Rattle.std.specs.List.{after_first, before_first, filter_map, list_all}
use Rattle.std.specs.Str.{bytes_eq, trim}
use Rattle.call_forms.specs.Keywords.{kind_word}
use Rattle.rustc_parse_format.specs.Views.{pair}
use Rattle.fault_fixes.specs.Edits.{Edit, is_empty}
use Rattle.source_report.specs.declared.report.Edit.{Edit as DeclaredEdit}
use Rattle.source_report.specs.declared.report.Finding.{Finding}
use Rattle.source_report.specs.declared.report.Help.{Help}
use Rattle.source_report.specs.declared.report.Label.{Label}

-- A suggestion that is drawn as a label: its advice, the text that replaces the source under the
-- label, and whether the compiler calls it applicable by a machine.
pub record LabelSuggestion : Type 0 where
  pub advice : List ℕ
  pub text : List ℕ
  pub is_sure : Bool

-- The suggestion that a label with this text is.
abbrev pub suggestion_of : List ℕ → Option LabelSuggestion
suggestion_of t =
    if bytes_eq t (codes "help: remove the `r#`")
    then Some (record { advice = codes "remove the `r#`"; text = []; is_sure = true })
    else if bytes_eq t (codes "help: this can be removed")
    then Some (record { advice = codes "this can be removed"; text = []; is_sure = true })
    else if bytes_eq t (codes "help: add a colon before the format specifier: `:?`")
    then Some (record {
      advice = codes "add a colon before the format specifier";
      text = codes ":?";
      is_sure = true;
    })
    else if bytes_eq t (codes "help: consider removing the leading `b`")
    then Some (record {
      advice = codes "consider removing the leading `b`";
      text = [];
      is_sure = false;
    })
    else None

-- The suggestions to a fault with this id are to be applied.
abbrev pub is_applicable : List ℕ → Bool
is_applicable w = bytes_eq w (codes "raw-identifier") || bytes_eq w (codes "missing-colon")
    || bytes_eq w (codes "flag-after-type") || bytes_eq w (codes "field-access")
    || bytes_eq w (codes "tuple-index")

-- A character of a format string is the same in source outside of a literal: it begins no escape,
-- and is no white space outside of ASCII.
abbrev pub is_plain : ℕ → Bool
is_plain c = not (c == code "\\") && (nat_lt c 128 || not (is_whitespace c))

-- The word is a keyword in no edition.
abbrev pub is_name : List ℕ → Bool
is_name w = bytes_eq (kind_word w) [] && not (bytes_eq w (codes "gen"))

-- The field of a variable, by these names, is an expression: none is a keyword, but for `self` in
-- front.
abbrev pub is_field : List ℕ → List ℕ → Bool
is_field name field = (bytes_eq name (codes "self") || is_name name) && is_name field

-- The new text of an edit is source of Rust, as far as it is moved out of a literal: it is
-- `, NAME.FIELD` without an escape, and without a keyword but `self` in front.
abbrev pub is_movable : List ℕ → Bool
is_movable bs =
    let moved = after_first (λ b. b == code ",") bs in
    list_all is_plain (chars bs) && is_field (trim (before_first (λ b. b == code ".") moved))
    (trim (after_first (λ b. b == code ".") moved))

-- So is that of each edit of a help.
unfoldable pub is_movable_help : Option Help → Bool
is_movable_help None = true
is_movable_help (Some h) = list_all (λ e. is_movable (string_bytes e.text)) h.edits.items

-- The edit of a label, if it is a suggestion.
abbrev pub label_edit : Label → Option Edit
label_edit l = option_map (λ s. record { span = pair l.range; text = s.text })
    (suggestion_of (string_bytes l.text))

-- An edit of a help.
abbrev pub help_edit : DeclaredEdit → Edit
help_edit e = record { span = pair e.range; text = string_bytes e.text }

-- The edits of a help, or none if there is no help.
abbrev pub help_edits : Option Help → List Edit
help_edits None = []
help_edits (Some h) = map help_edit h.edits.items

-- The edits that mend a fault, or none if it has no suggestion to apply, or one that would put text
-- into the source that is no expression.
abbrev pub edits_of : Finding → List Edit
edits_of x = if is_applicable x.id.now && is_movable_help x.help
    then filter_map label_edit x.labels.items ++ help_edits x.help else []

-- Each edit starts where the one before it ends or later, the first one at the byte offset `at` or
-- later, and none ends before it starts.
abbrev pub are_after : ℕ → List Edit → Bool
are_after at [] = true
are_after at (e ∷ es) = nat_le at e.span.0 && nat_le e.span.0 e.span.1 && are_after e.span.1 es

-- Where the last of these edits ends, or `at` if there is none.
abbrev pub end_after : ℕ → List Edit → ℕ
end_after at [] = at
end_after at (e ∷ es) = end_after e.span.1 es

-- A fault is mended if it has edits, and none of these starts before the byte offset `at`.
abbrev pub is_mended : ℕ → Finding → Bool
is_mended at x = not (is_empty (edits_of x)) && are_after at (edits_of x)

-- Of these faults, one after the other, those that are mended: each whose edits do not start before
-- the end of the last edit of those before it.
abbrev pub mended_faults : ℕ → List Finding → List Finding
mended_faults at [] = []
mended_faults at (x ∷ xs) = if is_mended at x then x ∷ mended_faults (end_after at (edits_of x)) xs
    else mended_faults at xs

-- The edits of these faults.
abbrev pub all_edits : List Finding → List Edit
all_edits [] = []
all_edits (x ∷ xs) = edits_of x ++ all_edits xs
