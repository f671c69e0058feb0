-- Suggestions and a text in the middle of its edits as a contract sees them.
use Rattle.std.specs.Prelude.{◌++◌, ℕ, List, map}
use Rattle.fault_fixes.specs.Edits.{Edit, edited_bytes}
use Rattle.source_report.specs.declared.report.Finding.{Finding}
use Rattle.source_report.specs.Suggestions.{LabelSuggestion, all_edits, mended_faults}
use Rattle.source_report.specs.declared.edited.EditedText.{EditedText}
use Rattle.source_report.specs.declared.suggestions.LabelSuggestion.{LabelSuggestion as Declared}

-- A suggestion as a contract sees it.
abbrev pub seen_suggestion : Declared → LabelSuggestion
seen_suggestion s = record { advice = s.advice.now; text = s.text.now; is_sure = s.is_sure }

-- The text with further edits.
abbrev pub with_edits : EditedText → List Edit → List ℕ
with_edits x es = x.bytes.items ++ edited_bytes x.end es x.rest.now

-- The text with the edits of those of these faults that are mended.
abbrev pub with_faults : EditedText → List Finding → List ℕ
with_faults x fs = with_edits x (all_edits (mended_faults x.end fs))

-- The ids of the faults that are mended, with those of these.
abbrev pub with_ids : EditedText → List Finding → List (List ℕ)
with_ids x fs = map (λ w. w.now) x.ids.items ++ map (λ f. f.id.now) (mended_faults x.end fs)
