use Rattle.std.proofs.Common.{◌≡◌, ◌++◌, ℕ, List, OnOk, ap, codes, false, map, refl, string_bytes}
use Rattle.std.proofs.Common.{subst}
use Rattle.rustc_parse_format.specs.Faults.{Message}
use Rattle.rustc_parse_format.specs.Types.{Mode}
use Rattle.rustc_parse_format.specs.Views.{seen_error, seen_mode}
use Rattle.rustc_parse_format.specs.World.{Place}
use Rattle.fault_fixes.specs.Edits.{offered_suggestion}
use Rattle.drawn_lines.specs.Places.{seen_picture}
use Rattle.drawn_faults.specs.Diagnostics.{Diagnostic, Help, Note, SourceEdit, SourceLabel}
use Rattle.drawn_faults.specs.Diagnostics.{diagnostic_text}
use Rattle.drawn_faults.specs.Drawing.{advice, diagnostic_of, edits_of, helps_of, labels_of}
use Rattle.drawn_faults.specs.Drawing.{notes_of, second_text, text_name, title}
use Rattle.drawn_faults.specs.SeenDiagnostics.{seen_help, seen_note, seen_source_edit}
use Rattle.drawn_faults.specs.SeenDiagnostics.{seen_source_label}
use Rattle.drawn_faults.proofs.drawing.put_error.Goals as goal

-- A diagnostic with what each function returns is that of the error. (Each text and each list is
-- passed on as it is.)
same : (mode : Mode) (m : Message Place) (description label : List ℕ)
    (title_made title_passed text_made text_passed advice_made advice_passed : List ℕ)
    (labels_made labels_passed : List SourceLabel) (notes_made notes_passed : List Note)
    (edits_made edits_read edits_passed : List SourceEdit) (helps_made helps_passed : List Help)
    → description ≡ m.description → title_made ≡ title mode description
    → label ≡ m.label → text_made ≡ label ++ (codes " in " ++ text_name mode)
    → text_passed ≡ text_made → labels_made ≡ labels_of m.span text_passed
    (second_text m.second (offered_suggestion mode m.suggestion))
    → notes_made ≡ notes_of m.note
    → edits_made ≡ edits_of (offered_suggestion mode m.suggestion) → edits_read ≡ edits_made
    → advice_made ≡ advice edits_read → advice_passed ≡ advice_made
    → edits_passed ≡ edits_made → helps_made ≡ helps_of advice_passed edits_passed
    → title_passed ≡ title_made → labels_passed ≡ labels_made → notes_passed ≡ notes_made
    → helps_passed ≡ helps_made
    → record {
      is_warning = false;
      title = title_passed;
      labels = labels_passed;
      notes = notes_passed;
      helps = helps_passed;
    }
    ≡ diagnostic_of mode m
unfolding diagnostic_of
same mode m d l t u x y a b ls ks ns os es fs gs hs is
    e1 e2 e3 e4 e5 e6 e7 e8 e9 e10 e11 e12 e13 e14 e15 e16 e17 =
    rw (e17, e13, e12, e11, e10, e9, e8, e16, e7, e15, e6, e5, e4, e3, e14, e2, e1) refl

pub returns : goal.returns
returns c =
    subst (λ d. OnOk c.put_labels.result (string_bytes c.put_labels.new.out
    ≡ string_bytes c.args.out.now ++ diagnostic_text (seen_picture c.args.picture.now) d))
    (same (seen_mode c.args.mode) (seen_error c.args.error.now) _ _ _ _ _ _ _ _ _ _ _ _ _ _ _ _ _
    c.as_str.ensures.value c.in_ok-title.ensures c.as_str-2.ensures.value c.in_ok-text.ensures
    c.as_str-3.ensures.value c.in_ok-labels.ensures c.in_ok-notes.ensures c.in_ok-edits.ensures
    (ap (map seen_source_edit) c.as_slice.ensures.value) c.in_ok-advice.ensures
    c.as_str-4.ensures.value (ap (map seen_source_edit) c.as_slice-2.ensures.value)
    c.in_ok-helps.ensures c.as_str-5.ensures.value
    (ap (map seen_source_label) c.as_slice-3.ensures.value)
    (ap (map seen_note) c.as_slice-4.ensures.value)
    (ap (map seen_help) c.as_slice-5.ensures.value))
    c.put_labels.ensures.drawn
