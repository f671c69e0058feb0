-- The drawing of an error of the parser: that of the diagnostic which says what the error says.
use Rattle.std.specs.Prelude.{ℕ, ◌++◌, ◌&&◌, ◌==◌, Bool, false, true, List, [], ◌∷◌, Option, None}
use Rattle.std.specs.Prelude.{Some, codes}
use Rattle.rustc_parse_format.specs.World.{Place}
use Rattle.rustc_parse_format.specs.Types.{Mode, Format, InlineAsm, Diagnostic, DiagnosticNamed}
use Rattle.rustc_parse_format.specs.Faults.{Message, Suggestion, Nothing, UsePositional}
use Rattle.rustc_parse_format.specs.Faults.{RemoveRawIdent, ReorderFormatParameter, AddMissingColon}
use Rattle.rustc_parse_format.specs.Faults.{UseRustDebugPrintingMacro}
use Rattle.fault_fixes.specs.Edits.{offered_suggestion}
use Rattle.drawn_lines.specs.Places.{Picture}
use Rattle.drawn_faults.specs.Diagnostics.{Diagnostic as SourceDiagnostic, Help, Note, SourceEdit}
use Rattle.drawn_faults.specs.Diagnostics.{SourceLabel, diagnostic_text}

-- The name of the compiler for the text of a literal in a mode.
abbrev pub text_name : Mode → List ℕ
text_name Format = codes "format string"
text_name InlineAsm = codes "asm template string"
text_name Diagnostic = codes "format string"
text_name DiagnosticNamed = codes "format string"

-- The title of an error.
abbrev pub title : Mode → List ℕ → List ℕ
title mode description = codes "invalid " ++ (text_name mode ++ (codes ": " ++ description))

-- The text and the range of a suggestion that is drawn as a label.
abbrev pub inline_help : Suggestion Place → Option (List ℕ × Place)
inline_help Nothing = None
inline_help UsePositional = None
inline_help (RemoveRawIdent s) = Some (codes "help: remove the `r#`", s)
inline_help (ReorderFormatParameter s t) = None
inline_help (AddMissingColon s) =
    Some (codes "help: add a colon before the format specifier: `:?`", s)
inline_help UseRustDebugPrintingMacro = None

-- The text and the range of the second label, if there is one.
abbrev pub second_text : Option (List ℕ × Place) → Suggestion Place → Option (List ℕ × Place)
second_text None g = inline_help g
second_text (Some x) g = Some x

-- The ranges are the same.
abbrev pub is_same : Place → Place → Bool
is_same s r = (s.0 == r.0) && (s.1 == r.1)

-- The labels of an error with this range, of which the first one has this text. The second one, if
-- there is one, is primary too if it has the same range.
abbrev pub labels_of : Place → List ℕ → Option (List ℕ × Place) → List SourceLabel
labels_of s t None = record { span = s; is_primary = true; text = t } ∷ []
labels_of s t (Some x) =
    record { span = s; is_primary = true; text = t }
    ∷ record { span = x.1; is_primary = is_same x.1 s; text = x.0 } ∷ []

-- The notes of an error.
abbrev pub notes_of : Option (List ℕ) → List Note
notes_of None = []
notes_of (Some t) = record { text = t; spans = [] } ∷ []

-- The edit that is drawn with its old and its new lines, if there is one.
abbrev pub edits_of : Suggestion Place → List SourceEdit
edits_of Nothing = []
edits_of UsePositional = []
edits_of (RemoveRawIdent s) = []
edits_of (ReorderFormatParameter s t) = record { span = s; text = t } ∷ []
edits_of (AddMissingColon s) = []
edits_of UseRustDebugPrintingMacro = []

-- What the help with an edit says.
abbrev pub advice : List SourceEdit → List ℕ
advice [] = []
advice (e ∷ es) = codes "did you mean `" ++ (e.text ++ codes "`?")

-- The help with this text and these edits, if there are any.
abbrev pub helps_of : List ℕ → List SourceEdit → List Help
helps_of t [] = []
helps_of t (e ∷ es) = record { text = t; edits = e ∷ es } ∷ []

-- What an error says, as a diagnostic.
unfoldable pub diagnostic_of : Mode → Message Place → SourceDiagnostic
diagnostic_of mode m =
    let suggestion = offered_suggestion mode m.suggestion in
    let edits = edits_of suggestion in
    record {
      is_warning = false;
      title = title mode m.description;
      labels = labels_of m.span (m.label ++ (codes " in " ++ text_name mode))
          (second_text m.second suggestion);
      notes = notes_of m.note;
      helps = helps_of (advice edits) edits;
    }

-- The whole text.
unfoldable pub drawing : Mode → Picture → Message Place → List ℕ
drawing mode p m = diagnostic_text p (diagnostic_of mode m)
