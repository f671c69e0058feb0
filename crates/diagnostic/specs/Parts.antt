-- A diagnostic as a contract sees it: plain records with texts as bytes, over any kind of place.
use Rattle.std.specs.Prelude.{ℕ, Bool, true, false, List, [], map, string_bytes}
use Rattle.diagnostic.specs.declared.ids.Id.{Id}
use Rattle.diagnostic.specs.declared.parts.Applicability.{Applicability}
use Rattle.diagnostic.specs.declared.parts.Diagnostic.{Diagnostic as DeclaredDiagnostic}
use Rattle.diagnostic.specs.declared.parts.Edit.{Edit as DeclaredEdit}
use Rattle.diagnostic.specs.declared.parts.Label.{Label as DeclaredLabel}
use Rattle.diagnostic.specs.declared.parts.Level.{Level}
use Rattle.diagnostic.specs.declared.parts.Note.{Note as DeclaredNote}
use Rattle.diagnostic.specs.declared.parts.NoteLevel.{NoteLevel}
use Rattle.diagnostic.specs.declared.parts.NoteLevel.TheVariants.{Help}
use Rattle.diagnostic.specs.declared.parts.Suggestion.{Suggestion as DeclaredSuggestion}
use Rattle.diagnostic.specs.declared.parts.SuggestionStyle.{SuggestionStyle}

pub record Label (P : Type 0) : Type 0 where
  pub place : P
  pub is_primary : Bool
  pub text : List ℕ

pub record Note (P : Type 0) : Type 0 where
  pub level : NoteLevel
  pub text : List ℕ
  pub places : List P

pub record Edit (P : Type 0) : Type 0 where
  pub place : P
  pub text : List ℕ

pub record Suggestion (P : Type 0) : Type 0 where
  pub advice : List ℕ
  pub edits : List (Edit P)
  pub applicability : Applicability
  pub is_complete : Bool
  pub style : SuggestionStyle

pub record Diagnostic (P : Type 0) : Type 0 where
  pub level : Level
  pub id : Id
  pub title : List ℕ
  pub labels : List (Label P)
  pub notes : List (Note P)
  pub suggestions : List (Suggestion P)

-- A label of a place that the fault is about.
abbrev pub primary : {P : Type 0} → P → List ℕ → Label P
primary p t = record { place = p; is_primary = true; text = t }

-- A label of another place.
abbrev pub secondary : {P : Type 0} → P → List ℕ → Label P
secondary p t = record { place = p; is_primary = false; text = t }

-- A help without edits and without places.
abbrev pub help_note : {P : Type 0} → List ℕ → Note P
help_note t = record { level = Help; text = t; places = [] }

abbrev pub seen_label : {P : Type 0} → DeclaredLabel P → Label P
seen_label l = record { place = l.place; is_primary = l.is_primary; text = string_bytes l.text }

abbrev pub seen_note : {P : Type 0} → DeclaredNote P → Note P
seen_note n = record { level = n.level; text = string_bytes n.text; places = n.places.items }

abbrev pub seen_edit : {P : Type 0} → DeclaredEdit P → Edit P
seen_edit e = record { place = e.place; text = string_bytes e.text }

abbrev pub seen_suggestion : {P : Type 0} → DeclaredSuggestion P → Suggestion P
seen_suggestion s = record {
  advice = string_bytes s.advice;
  edits = map seen_edit s.edits.items;
  applicability = s.applicability;
  is_complete = s.is_complete;
  style = s.style;
}

abbrev pub seen_diagnostic : {P : Type 0} → DeclaredDiagnostic P → Diagnostic P
seen_diagnostic d = record {
  level = d.level;
  id = d.id;
  title = string_bytes d.title;
  labels = map seen_label d.labels.items;
  notes = map seen_note d.notes.items;
  suggestions = map seen_suggestion d.suggestions.items;
}
