-- Edits of a text, which suggestions have one, and the text with them.
use Rattle.std.specs.Prelude.{ℕ, Bool, true, false, not, ◌-◌, ◌++◌, ◌<◌, ◌≤◌, ◌&&◌, ◌||◌, nat_lt}
use Rattle.std.specs.Prelude.{nat_le, if◌then◌else◌, List, [], ◌∷◌, take, drop, reverse, Option}
use Rattle.std.specs.Prelude.{Some, None, codes}
use Rattle.std.specs.List.{filter_map}
use Rattle.rustc_parse_format.specs.World.{Place}
use Rattle.rustc_parse_format.specs.Types.{Mode, Format, InlineAsm, Diagnostic, DiagnosticNamed}
use Rattle.rustc_parse_format.specs.Faults.{Message, Suggestion, Nothing, UsePositional}
use Rattle.rustc_parse_format.specs.Faults.{RemoveRawIdent, ReorderFormatParameter, AddMissingColon}
use Rattle.rustc_parse_format.specs.Faults.{UseRustDebugPrintingMacro}

-- An edit: the bytes in a range are replaced by those of a text.
pub record Edit : Type 0 where
  pub span : Place
  pub text : List ℕ

-- The edit of a suggestion that can be applied without the call's arguments: the `r#` is removed, a
-- colon is inserted, or a flag is moved in front of its `?`.
abbrev pub suggested_edit : Suggestion Place → Option Edit
suggested_edit Nothing = None
suggested_edit UsePositional = None
suggested_edit (RemoveRawIdent s) = Some (record { span = s; text = [] })
suggested_edit (ReorderFormatParameter s w) = Some (record { span = s; text = w })
suggested_edit (AddMissingColon s) = Some (record { span = (s.0, s.0); text = codes ":" })
suggested_edit UseRustDebugPrintingMacro = None

-- The suggestion that is made in a mode. The compiler makes none for a template of assembly, and
-- where no placeholder may have a specification, none leads to one.
abbrev pub offered_suggestion : Mode → Suggestion Place → Suggestion Place
offered_suggestion Format g = g
offered_suggestion Diagnostic g = g
offered_suggestion InlineAsm g = Nothing
offered_suggestion DiagnosticNamed Nothing = Nothing
offered_suggestion DiagnosticNamed UsePositional = Nothing
offered_suggestion DiagnosticNamed (RemoveRawIdent s) = RemoveRawIdent s
offered_suggestion DiagnosticNamed (ReorderFormatParameter s w) = Nothing
offered_suggestion DiagnosticNamed (AddMissingColon s) = Nothing
offered_suggestion DiagnosticNamed UseRustDebugPrintingMacro = Nothing

-- The edit of an error in a mode.
abbrev pub edit_of : Mode → Message Place → Option Edit
edit_of mode m = suggested_edit (offered_suggestion mode m.suggestion)

-- The edit starts after the byte offset `at`, and does not end before it starts.
abbrev pub is_after : ℕ → Edit → Bool
is_after at e = nat_lt at e.span.0 && nat_le e.span.0 e.span.1

-- Of these edits, one after the other, those that are made: each that starts after the end of the
-- one made before it, and the first after the byte offset `at`.
abbrev pub made_edits : ℕ → List Edit → List Edit
made_edits at [] = []
made_edits at (e ∷ es) = if is_after at e then e ∷ made_edits e.span.1 es else made_edits at es

-- The edits of errors in a mode. A parser puts each error that has an edit before the errors of
-- earlier places, so the last error comes first here.
abbrev pub edits : Mode → List (Message Place) → List Edit
edits mode ms = made_edits 0 (filter_map (edit_of mode) (reverse ms))

-- Each edit starts after the end of the one before it, and the first after the byte offset `at`.
abbrev pub AreInOrder : ℕ → List Edit → Type 0
AreInOrder at [] = Unit {0}
AreInOrder at (e ∷ es) = (at < e.span.0) × (e.span.0 ≤ e.span.1) × AreInOrder e.span.1 es

-- The bytes t with these edits, where the first of them is at the byte offset `at`.
abbrev pub edited_bytes : ℕ → List Edit → List ℕ → List ℕ
edited_bytes at [] t = t
edited_bytes at (e ∷ es) t = take (e.span.0 - at) t
    ++ (e.text ++ edited_bytes e.span.1 es (drop (e.span.1 - at) t))

-- There is no edit.
abbrev pub is_empty : List Edit → Bool
is_empty [] = true
is_empty (e ∷ es) = false

-- The bytes out with these edits in t after them, which is at the byte offset `at`, where the last
-- edit before it ends at the byte offset `end`, which is 0 if there is none; and whether there is
-- an edit.
abbrev pub joined_edits : List ℕ → ℕ → ℕ → List ℕ → List Edit → List ℕ × Bool
joined_edits out at end t es = (
  out ++ edited_bytes at (made_edits end es) t,
  nat_lt 0 end || not
      (is_empty (made_edits end es)),
)
