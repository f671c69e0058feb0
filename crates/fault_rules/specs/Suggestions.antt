-- The suggestions for a fault of a string, as they are found by ids and by the texts of labels.
use Rattle.std.specs.Prelude.{Bool, true, false}
use Rattle.diagnostic.specs.Parts.{Suggestion}
use Rattle.diagnostic.specs.Suggestions.{is_label, is_sure, new_text}
use Rattle.rustc_parse_format.specs.Faults.{Fault, message, Suggestion as OfError, Nothing}
use Rattle.rustc_parse_format.specs.Faults.{UsePositional, RemoveRawIdent, ReorderFormatParameter}
use Rattle.rustc_parse_format.specs.Faults.{AddMissingColon, UseRustDebugPrintingMacro}
use Rattle.source_report.specs.Suggestions.{LabelSuggestion}

-- The arguments of the call count for the suggestion.
abbrev pub is_of_call : {A : Type 0} → OfError A → Bool
is_of_call Nothing = false
is_of_call UsePositional = true
is_of_call (RemoveRawIdent s) = false
is_of_call (ReorderFormatParameter s t) = false
is_of_call (AddMissingColon s) = false
is_of_call UseRustDebugPrintingMacro = true

abbrev pub needs_arguments : {A : Type 0} → Fault A → Bool
needs_arguments f = is_of_call (message f).suggestion

-- The suggestion is shown as a label.
abbrev pub is_shown : {P : Type 0} → Suggestion P → Bool
is_shown s = is_label s.style

-- The suggestion that is found by its label.
abbrev pub label_suggestion : {P : Type 0} → Suggestion P → LabelSuggestion
label_suggestion s = record {
  advice = s.advice;
  text = new_text s.edits;
  is_sure = is_sure s.applicability;
}
