-- What a finding says, without its ranges: the same as a diagnostic.
use Rattle.std.specs.Prelude.{ℕ, Bool, true, false, List, [], ◌∷◌, Option, Some, None, map}
use Rattle.std.specs.Prelude.{option_map, string_bytes}
use Rattle.std.specs.List.{filter_map}
use Rattle.diagnostic.specs.Ids.{name}
use Rattle.diagnostic.specs.Parts.{Diagnostic, Label, Note}
use Rattle.diagnostic.specs.declared.parts.Level.{Level}
use Rattle.diagnostic.specs.declared.parts.Level.TheVariants.{Error, Warning}
use Rattle.diagnostic.specs.declared.parts.NoteLevel.{NoteLevel}
use Rattle.diagnostic.specs.declared.parts.NoteLevel.TheVariants.{Help as HelpLevel}
use Rattle.diagnostic.specs.declared.parts.NoteLevel.TheVariants.{Note as NoteOnly}
use Rattle.source_report.specs.declared.report.Finding.{Finding}
use Rattle.source_report.specs.declared.report.Help.{Help}
use Rattle.source_report.specs.declared.report.Label.{Label as FoundLabel}
use Rattle.source_report.specs.declared.report.Note.{Note as FoundNote}

-- A label: whether the fault is about its place, and its text.
pub record SaidLabel : Type 0 where
  pub is_primary : Bool
  pub text : List ℕ

-- A note: its text, and for each place that it shows an element.
pub record SaidNote : Type 0 where
  pub text : List ℕ
  pub shown : List (Unit {0})

-- A help: the advice, and the new texts of its edits.
pub record SaidHelp : Type 0 where
  pub text : List ℕ
  pub new_texts : List (List ℕ)

-- What is said of a fault.
pub record Said : Type 0 where
  pub is_warning : Bool
  pub id : List ℕ
  pub title : List ℕ
  pub labels : List SaidLabel
  pub notes : List SaidNote
  pub help : Option SaidHelp

-- A place is left out.
abbrev pub nowhere : {P : Type 0} → P → Unit {0}
nowhere p = tt

abbrev pub found_label : FoundLabel → SaidLabel
found_label l = record { is_primary = l.is_primary; text = string_bytes l.text }

abbrev pub found_note : FoundNote → SaidNote
found_note n = record { text = string_bytes n.text; shown = map nowhere n.ranges.items }

abbrev pub found_help : Help → SaidHelp
found_help h = record {
  text = string_bytes h.text;
  new_texts = map (λ e. string_bytes e.text) h.edits.items;
}

-- What a finding says.
abbrev pub said : Finding → Said
said x = record {
  is_warning = x.is_warning;
  id = x.id.now;
  title = string_bytes x.title;
  labels = map found_label x.labels.items;
  notes = map found_note x.notes.items;
  help = option_map found_help x.help;
}

abbrev pub is_warning : Level → Bool
is_warning Error = false
is_warning Warning = true

abbrev pub said_label : {P : Type 0} → Label P → SaidLabel
said_label l = record { is_primary = l.is_primary; text = l.text }

-- What is said by a note of this level, which shows these places, if it is no help.
abbrev pub note_of_level : {P : Type 0} → NoteLevel → List ℕ → List P → Option SaidNote
note_of_level NoteOnly t ps = Some (record { text = t; shown = map nowhere ps })
note_of_level HelpLevel t ps = None

abbrev pub said_note : {P : Type 0} → Note P → Option SaidNote
said_note n = note_of_level n.level n.text n.places

-- The help after a note of this level, where this one is the help before it. A help without edits
-- shows no place.
abbrev pub help_of_level : NoteLevel → List ℕ → Option SaidHelp → Option SaidHelp
help_of_level NoteOnly t h = h
help_of_level HelpLevel t h = Some (record { text = t; new_texts = [] })

-- The last help among these notes, or this one if there is none.
abbrev pub help_among : {P : Type 0} → Option SaidHelp → List (Note P) → Option SaidHelp
help_among h [] = h
help_among h (n ∷ ns) = help_among (help_of_level n.level n.text h) ns

-- What a diagnostic without suggestions says.
abbrev pub said_by : {P : Type 0} → Diagnostic P → Said
said_by d = record {
  is_warning = is_warning d.level;
  id = name d.id;
  title = d.title;
  labels = map said_label d.labels;
  notes = filter_map said_note d.notes;
  help = help_among None d.notes;
}
