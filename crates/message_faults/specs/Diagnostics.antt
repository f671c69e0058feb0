-- What rustc says of a fault. The words for the faults of a kind are those of the code.
use Rattle.std.specs.Prelude.{ℕ, ◌++◌, List, [], ◌∷◌, codes}
use Rattle.diagnostic.specs.Parts.{Diagnostic, help_note, primary, secondary}
use Rattle.diagnostic.specs.declared.ids.Id.{Id}
use Rattle.diagnostic.specs.declared.ids.Id.TheVariants.{MissingParameter as MissingParameterId}
use Rattle.diagnostic.specs.declared.ids.Id.TheVariants.{PositionalInMessage, SpecifierInMessage}
use Rattle.diagnostic.specs.declared.parts.Level.TheVariants.{Warning}
use Rattle.rustc_parse_format.specs.Characters.{Text}
use Rattle.rustc_parse_format.specs.Faults.{Fault, message}
use Rattle.rustc_parse_format.specs.World.{Place}
use Rattle.text_diagnostics.specs.Ids.{text_id}
use Rattle.text_faults.specs.Spots.{bytes_at}
use Rattle.text_faults.specs.Words.{quoted_name}
use Rattle.text_faults.specs.declared.spots.Spot.{Spot}
use Rattle.text_faults.specs.declared.spots.Spot.TheVariants.{Literal}
use Rattle.message_faults.specs.Messages.{MessageFault, TextFault, Specifier, Positional}
use Rattle.message_faults.specs.Messages.{MissingParameter}
use Rattle.message_faults.specs.declared.words.TheConstants.{PARAMETER_HELP, POSITIONAL_HELP}
use Rattle.message_faults.specs.declared.words.TheConstants.{POSITIONAL_TITLE, SPECIFIER_HELP}
use Rattle.message_faults.specs.declared.words.TheConstants.{SPECIFIER_TITLE}

-- A fault of the text: the literal is what it is about, and a second label is of the place in it.
abbrev pub text_diagnostic : Fault Place → Diagnostic Spot
text_diagnostic f = record {
  level = Warning;
  id = text_id f;
  title = (message f).description;
  labels = primary Literal [] ∷ secondary (bytes_at (message f).span) (message f).label ∷ [];
  notes = [];
  suggestions = [];
}

-- A fault of one place, with a help.
abbrev pub at_spot : Id → List ℕ → List ℕ → Spot → Diagnostic Spot
at_spot id title help s = record {
  level = Warning;
  id = id;
  title = title;
  labels = primary s [] ∷ [];
  notes = help_note help ∷ [];
  suggestions = [];
}

-- The title of a name that is that of no parameter of a trait.
abbrev pub parameter_title : Text → Text → List ℕ
parameter_title w t =
    codes "there is no parameter " ++ (quoted_name w ++ (codes " on trait " ++ quoted_name t))

-- What is said of a fault, for a trait of this name.
unfoldable pub diagnostic : Text → MessageFault → Diagnostic Spot
diagnostic t (TextFault f) = text_diagnostic f
diagnostic t (Specifier s) =
    at_spot SpecifierInMessage SPECIFIER_TITLE.now SPECIFIER_HELP.now s
diagnostic t (Positional s) =
    at_spot PositionalInMessage POSITIONAL_TITLE.now POSITIONAL_HELP.now s
diagnostic t (MissingParameter s w) =
    at_spot MissingParameterId (parameter_title w t) PARAMETER_HELP.now s
