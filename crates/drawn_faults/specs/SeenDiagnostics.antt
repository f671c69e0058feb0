-- Diagnostics as a contract sees them: texts as their bytes, ranges as pairs.
use Rattle.std.specs.Prelude.{Bool, true, false, map}
use Rattle.rustc_parse_format.specs.Views.{pair}
use Rattle.drawn_faults.specs.Diagnostics.{Diagnostic, Help, Note, SourceEdit, SourceLabel}
use Rattle.fault_fixes.specs.declared.fixes.Edit.{Edit as DeclaredEdit}
use Rattle.drawn_faults.specs.declared.diagnostics.Level.{Level}
use Rattle.drawn_faults.specs.declared.diagnostics.Level.TheVariants.{Error, Warning}
use Rattle.drawn_faults.specs.declared.diagnostics.SourceLabel.{SourceLabel as DeclaredLabel}
use Rattle.drawn_faults.specs.declared.notes.SourceNote.{SourceNote as DeclaredNote}
use Rattle.drawn_faults.specs.declared.helps.SourceHelp.{SourceHelp as DeclaredHelp}
use Rattle.drawn_faults.specs.declared.diagnostics.Diagnostic.{Diagnostic as DeclaredDiagnostic}

-- The diagnostic is a warning.
abbrev pub is_warning : Level → Bool
is_warning Error = false
is_warning Warning = true

-- A label as a contract sees it.
abbrev pub seen_source_label : DeclaredLabel → SourceLabel
seen_source_label l = record {
  span = pair l.span;
  is_primary = l.is_primary;
  text = l.text.now;
}

-- A note as a contract sees it.
abbrev pub seen_note : DeclaredNote → Note
seen_note n = record { text = n.text.now; spans = map pair n.spans.now }

-- An edit as a contract sees it.
abbrev pub seen_source_edit : DeclaredEdit → SourceEdit
seen_source_edit e = record { span = pair e.span; text = e.text.now }

-- A help as a contract sees it.
abbrev pub seen_help : DeclaredHelp → Help
seen_help h = record { text = h.text.now; edits = map seen_source_edit h.edits.now }

-- A diagnostic as a contract sees it.
abbrev pub seen_diagnostic : DeclaredDiagnostic → Diagnostic
seen_diagnostic d = record {
  is_warning = is_warning d.level;
  title = d.title.now;
  labels = map seen_source_label d.labels.now;
  notes = map seen_note d.notes.now;
  helps = map seen_help d.helps.now;
}
