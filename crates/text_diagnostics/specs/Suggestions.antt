-- The suggestions for a fault of a string. The words are those of the code.
use Rattle.std.specs.Prelude.{ℕ, true, ◌++◌, List, [], ◌∷◌, codes}
use Rattle.diagnostic.specs.Parts.{Suggestion}
use Rattle.diagnostic.specs.declared.parts.Applicability.TheVariants.{MachineApplicable}
use Rattle.diagnostic.specs.declared.parts.SuggestionStyle.{SuggestionStyle}
use Rattle.diagnostic.specs.declared.parts.SuggestionStyle.TheVariants.{ShowAlways, ShowCode}
use Rattle.rustc_parse_format.specs.Faults.{Fault, message, Suggestion as OfError, Nothing}
use Rattle.rustc_parse_format.specs.Faults.{UsePositional, RemoveRawIdent, ReorderFormatParameter}
use Rattle.rustc_parse_format.specs.Faults.{AddMissingColon, UseRustDebugPrintingMacro}
use Rattle.rustc_parse_format.specs.World.{Place}
use Rattle.text_faults.specs.Spots.{bytes_at}
use Rattle.text_faults.specs.declared.spots.Spot.{Spot}
use Rattle.text_diagnostics.specs.declared.words.TheConstants.{ADD_COLON, DEBUG, REMOVE_RAW}

-- A suggestion with one edit, which a machine may apply.
abbrev pub single : List ℕ → Place → List ℕ → SuggestionStyle → Suggestion Spot
single advice p new style = record {
  advice = advice;
  edits = record { place = bytes_at p; text = new } ∷ [];
  applicability = MachineApplicable;
  is_complete = true;
  style = style;
}

-- The advice to write this text.
abbrev pub meant : List ℕ → List ℕ
meant new = codes "did you mean `" ++ (new ++ codes "`?")

-- The suggestion of an error, if it has one that needs no arguments.
unfoldable pub suggestions : OfError Place → List (Suggestion Spot)
suggestions Nothing = []
suggestions UsePositional = []
suggestions (RemoveRawIdent p) = single REMOVE_RAW.now p [] ShowCode ∷ []
suggestions (ReorderFormatParameter p new) = single (meant new) p new ShowAlways ∷ []
suggestions (AddMissingColon p) = single ADD_COLON.now p DEBUG.now ShowCode ∷ []
suggestions UseRustDebugPrintingMacro = []

-- The suggestions for a fault.
abbrev pub suggestions_of : Fault Place → List (Suggestion Spot)
suggestions_of f = suggestions (message f).suggestion
