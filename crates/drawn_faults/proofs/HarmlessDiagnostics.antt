-- The drawing of a diagnostic without its colours is the one without colours, and a terminal obeys
-- no character of that, but for line feeds.
use Rattle.std.proofs.Common.{◌≡◌, ◌∙◌, ◌∷◌, ◌&&◌, ◌==◌, ℕ, [], false, true, Bool, List, None}
use Rattle.std.proofs.Common.{Option, Some, ap, chars, codes, cond, ◌+◌, if◌then◌else◌, length, map}
use Rattle.std.proofs.Common.{refl, subst, sym}
use Rattle.std.specs.Prelude.{decimal, unwrap_or}
use Rattle.std.specs.Option.{option_map_or}
use Rattle.rustc_parse_format.specs.Characters.{Text}
use Rattle.rustc_parse_format.specs.World.{Place}
use Rattle.drawn_faults.specs.Diagnostics.{Diagnostic, Help, Note, SourceLabel, arrow}
use Rattle.drawn_faults.specs.Diagnostics.{diagnostic_text}
use Rattle.drawn_faults.specs.Diagnostics.{drawn_in, each_in_line, first_spot, frame_of, gap_after}
use Rattle.drawn_faults.specs.Diagnostics.{SourceEdit, gutter_of, help_by, help_row_word}
use Rattle.drawn_faults.specs.Diagnostics.{helps_rows, in_line, indented_text, label_of}
use Rattle.drawn_faults.specs.Diagnostics.{labels_rows, last_edit_line, last_help_line}
use Rattle.drawn_faults.specs.Diagnostics.{last_label_line, last_line_of, last_note_line}
use Rattle.drawn_faults.specs.Diagnostics.{level_word, lower_indent, lowest_of_labels, marked_lines}
use Rattle.drawn_faults.specs.Diagnostics.{next_line}
use Rattle.drawn_faults.specs.Diagnostics.{note_gutter, note_word, notes_rows, parting_above}
use Rattle.drawn_faults.specs.Diagnostics.{placed_edit}
use Rattle.drawn_faults.specs.Diagnostics.{plain_note, shown_label, shown_note, titled_labels}
use Rattle.drawn_lines.specs.Glyphs.{IsHarmless, glyph, glyph_count, is_obeyed}
use Rattle.drawn_lines.specs.Frames.{Frame, line_indent}
use Rattle.drawn_lines.specs.Windows.{shift}
use Rattle.drawn_labels.specs.Labels.{Label, mark, mark_in}
use Rattle.drawn_labels.specs.Margins.{window_of}
use Rattle.drawn_labels.specs.Marks.{is_right_of, sorted_marks}
use Rattle.drawn_lines.specs.Painting.{IsColourOf, IsHarmlessWith}
use Rattle.drawn_lines.specs.Places.{Picture, extent, without_colours}
use Rattle.drawn_labels.specs.Rows.{Mark}
use Rattle.drawn_lines.specs.declared.paint.Gutter.{Gutter}
use Rattle.drawn_lines.specs.declared.paint.Palette.{Palette}
use Rattle.drawn_lines.specs.declared.paint.Palette.TheVariants.{Colourless}
use Rattle.drawn_lines.specs.declared.paint.Style.TheVariants.{Bold, Primary, Secondary}
use Rattle.drawn_lines.proofs.Coloured.{coloured, either, join, nothing, of_painted, plain}
use Rattle.drawn_lines.proofs.Coloured.{uncoloured-harmless}
use Rattle.drawn_lines.proofs.Harmless.{decimal-harmless}
use Rattle.drawn_lines.specs.declared.extent.Spot.{Spot}
use Rattle.shown_text.proofs.OneLine.{one_line-harmless, shown-one_line}
use Rattle.shown_text.specs.declared.gate.Kind.TheVariants.{Line}
use Rattle.drawn_lines.proofs.Harmless.{glyph-harmless, glyphs-harmless, join as join_harmless}
use Rattle.drawn_lines.proofs.Harmless.{run-harmless, text as harmless_text, written-harmless}
use Rattle.drawn_edits.proofs.HarmlessHelps.{of_edits, of_help_word}
use Rattle.drawn_lines.proofs.HarmlessLines.{of_parting, of_code, of_gap, of_glyphs, off}
use Rattle.drawn_lines.proofs.HarmlessLines.{plain_frame, spaces, text}
use Rattle.drawn_labels.proofs.HarmlessRows.{of_long}
use Rattle.drawn_labels.proofs.HarmlessMarks.{AreSigned, of_marks, sorted-signed}

in_line-signed : (n : ℕ) (ms : List Mark) → AreSigned ms → AreSigned (in_line n ms)
in_line-signed n [] p = tt
in_line-signed n (m ∷ ms) p =
    by_test (m.line == n) (in_line n ms) (in_line-signed n ms p.1)
  where
    by_test : (b : Bool) (ns : List Mark) → AreSigned ns → AreSigned (cond b (m ∷ ns) ns)
    by_test true ns q = (p.0, q)
    by_test false ns q = q

of_arrow : (f : Frame) (at : Spot) → IsColourOf (arrow f at) (arrow (plain_frame f) at)
unfolding arrow
of_arrow f at =
    join (spaces f.gutter.columns)
    (join (of_painted f.gutter.palette Secondary (harmless_text (codes "--> ") refl))
    (join (plain (one_line-harmless (shown-one_line Line f.picture.path)))
    (join (text (codes ":") refl)
    (join (plain (decimal-harmless (f.picture.line_start + at.line))) (join (text (codes ":") refl)
    (join (plain (decimal-harmless (at.chars + 1))) (text (codes "\n") refl)))))))

-- lines with labels
of_gap_after : (f : Frame) (o : Option ℕ) (n : ℕ)
    → IsColourOf (gap_after f o n) (gap_after (plain_frame f) o n)
of_gap_after f None n = nothing
of_gap_after f (Some m) n = of_gap f m n

of_next_line : (f : Frame) (o : Option ℕ) (n : ℕ) (ms : List Mark) → AreSigned ms
    → IsColourOf (next_line f o n ms) (next_line (plain_frame f) o n ms)
of_next_line f o n ms p =
    either (option_map_or (λ m. m == n) o false) nothing
    (join (of_gap_after f o n)
    (join (of_code f n) (of_marks f.gutter (in_line n ms) (in_line-signed n ms p))))

of_marked_lines : (f : Frame) (o : Option ℕ) (ms : List Mark) → AreSigned ms
    → IsColourOf (marked_lines f o ms) (marked_lines (plain_frame f) o ms)
of_marked_lines f o [] p = nothing
of_marked_lines f o (m ∷ ms) p =
    join (of_next_line f o m.line (m ∷ ms) p) (of_marked_lines f (Some m.line) ms p.1)

-- labels whose signs are harmless
abbrev HaveSigns : List Label → Type 0
HaveSigns [] = Unit {0}
HaveSigns (l ∷ ls) = (is_obeyed l.sign ≡ false) × HaveSigns ls

marks-signed : (f : Frame) (ls : List Label) → HaveSigns ls → AreSigned (map (mark_in f) ls)
unfolding mark
marks-signed f [] p = tt
marks-signed f (l ∷ ls) p = (p.0, marks-signed f ls p.1)

of_each : (f : Frame) (ls : List Label) → HaveSigns ls
    → IsColourOf (each_in_line f ls) (each_in_line (plain_frame f) ls)
unfolding shift
of_each f ls p =
    of_marked_lines f None (sorted_marks is_right_of [] (map (mark_in f) ls))
    (sorted-signed is_right_of [] (map (mark_in f) ls) tt (marks-signed f ls p))

of_labels : (f : Frame) (ls : List Label) → HaveSigns ls
    → IsColourOf (labels_rows f ls) (labels_rows (plain_frame f) ls)
of_labels f [] p = of_each f [] p
of_labels f (l ∷ []) p =
    either (l.extent.start.line == l.extent.end.line) (of_each f (l ∷ []) p) (of_long f l)
of_labels f (l ∷ k ∷ ls) p = of_each f (l ∷ k ∷ ls) p

of_titled : (f : Frame) (p : Palette) (word title : List ℕ) (ls : List Label) → IsHarmless word
    → HaveSigns ls
    → IsColourOf (titled_labels f p word title ls)
    (titled_labels (plain_frame f) Colourless word title ls)
unfolding titled_labels
of_titled f p word title ls w q =
    join (of_painted f.gutter.palette Primary w)
    (join (of_painted p Bold
    (join_harmless (harmless_text (codes ": ") refl) (glyphs-harmless (chars title))))
    (join (text (codes "\n") refl)
    (join (of_arrow f (first_spot ls)) (join (of_parting f) (of_labels f ls q)))))

-- notes
of_note_word : (g : Gutter) → IsColourOf (note_word g) (note_word (off g))
of_note_word g =
    join (spaces g.columns) (join (text (codes " ") refl)
    (join (of_painted g.palette Secondary (harmless_text (codes "= ") refl))
    (join (of_painted g.palette Bold (harmless_text (codes "note") refl))
    (text (codes ": ") refl))))

of_indented : (g : Gutter) (t : Text) → IsColourOf (indented_text g t) (indented_text (off g) t)
of_indented g [] = nothing
of_indented g (c ∷ t) =
    join (plain (run-harmless (glyph_count c) (glyph c) (glyph-harmless c)))
    (join (either (c == 10) (join (spaces g.columns) (text (codes "         ") refl)) nothing)
    (of_indented g t))

of_plain_note : (g : Gutter) (t : List ℕ) → IsColourOf (plain_note g t) (plain_note (off g) t)
of_plain_note g t =
    join (of_note_word g) (join (of_indented g (chars t)) (text (codes "\n") refl))

shown-signs : (p : Picture) (ss : List Place) → HaveSigns (map (shown_label p) ss)
shown-signs p [] = tt
shown-signs p (s ∷ ss) = (written-harmless 94 refl, shown-signs p ss)

-- Lines have the same indent in the picture without colours.
lowest-same : (p : Picture) (o : Option ℕ) (ls : List Label)
    → lowest_of_labels (without_colours p) o ls ≡ lowest_of_labels p o ls
lowest-same p o [] = refl
lowest-same p o (l ∷ ls) =
    lowest-same p (lower_indent (lower_indent o (line_indent p l.extent.start.line))
    (line_indent p l.extent.end.line)) ls

frame-same : (p : Picture) (g : Gutter) (ls : List Label)
    → plain_frame (frame_of p g ls) ≡ frame_of (without_colours p) (off g) ls
unfolding frame_of
frame-same p g ls =
    ap (λ (n : Option ℕ). record {
      picture = without_colours p;
      gutter = off g;
      window = window_of p g (unwrap_or n 0) ls;
    }) (sym (lowest-same p None ls))

of_shown_note : (p : Picture) (g : Gutter) (t : List ℕ) (ls : List Label) → HaveSigns ls
    → IsColourOf (shown_note p g t ls) (shown_note (without_colours p) (off g) t ls)
of_shown_note p g t [] q = of_plain_note g t
of_shown_note p g t (l ∷ ls) q =
    let f = frame_of p (note_gutter p g) (l ∷ ls) in
    subst (λ e. IsColourOf (titled_labels f Colourless (codes "note") t (l ∷ ls))
    (titled_labels e Colourless (codes "note") t (l ∷ ls)))
    (frame-same p (note_gutter p g) (l ∷ ls))
    (of_titled f Colourless (codes "note") t (l ∷ ls) (harmless_text (codes "note") refl) q)

of_notes : (p : Picture) (g : Gutter) (ns : List Note)
    → IsColourOf (notes_rows p g ns) (notes_rows (without_colours p) (off g) ns)
unfolding extent
of_notes p g [] = nothing
of_notes p g (n ∷ ns) =
    join (of_shown_note p g n.text (map (shown_label p) n.spans) (shown-signs p n.spans))
    (of_notes p g ns)

-- helps
of_help_row_word : (g : Gutter) → IsColourOf (help_row_word g) (help_row_word (off g))
of_help_row_word g =
    join (spaces g.columns) (join (text (codes " ") refl)
    (join (of_painted g.palette Secondary (harmless_text (codes "= ") refl))
    (join (of_painted g.palette Bold (harmless_text (codes "help") refl))
    (text (codes ": ") refl))))

of_help : (f : Frame) (t : List ℕ) (es : List SourceEdit)
    → IsColourOf (help_by f t es) (help_by (plain_frame f) t es)
unfolding extent
of_help f t [] =
    join (of_help_row_word f.gutter) (join (of_indented f.gutter (chars t)) (text (codes "\n") refl))
of_help f t (e ∷ es) =
    join (of_help_word f.gutter.palette) (join (of_glyphs t) (join (text (codes "\n") refl)
    (of_edits f (map (placed_edit f.picture) (e ∷ es)))))

of_helps : (f : Frame) (hs : List Help)
    → IsColourOf (helps_rows f hs) (helps_rows (plain_frame f) hs)
unfolding extent
of_helps f [] = nothing
of_helps f (h ∷ hs) =
    join (of_help f h.text h.edits) (of_helps f hs)

-- the whole
labels-signs : (p : Picture) (ls : List SourceLabel) → HaveSigns (map (label_of p) ls)
labels-signs p [] = tt
labels-signs p (l ∷ ls) = (by_test l.is_primary, labels-signs p ls)
  where
    by_test : (b : Bool) → is_obeyed (if b then 94 else 45) ≡ false
    by_test true = written-harmless 94 refl
    by_test false = written-harmless 45 refl

of_word : (b : Bool) → IsHarmless (level_word b)
of_word true = harmless_text (codes "warning") refl
of_word false = harmless_text (codes "error") refl

of_parting_above : (f : Frame) (d : Diagnostic)
    → IsColourOf (parting_above f d) (parting_above (plain_frame f) d)
of_parting_above f d =
    either ((length d.notes == 0) && (length d.helps == 0)) nothing (of_parting f)

of_drawn_in : (f : Frame) (d : Diagnostic) (ls : List Label) → HaveSigns ls
    → IsColourOf (drawn_in f d ls) (drawn_in (plain_frame f) d ls)
unfolding drawn_in
of_drawn_in f d ls q =
    join
    (of_titled f f.gutter.palette (level_word d.is_warning) d.title ls (of_word d.is_warning) q)
    (join (of_parting_above f d) (join (of_notes f.picture f.gutter d.notes)
    (join (of_helps f d.helps) (text (codes "\n") refl))))

-- The picture without colours has the same lines.
note-same : (p : Picture) (n : ℕ) (ns : List Note)
    → last_note_line (without_colours p) n ns ≡ last_note_line p n ns
unfolding extent
note-same p n [] = refl
note-same p n (t ∷ ts) = note-same p (last_label_line n (map (shown_label p) t.spans)) ts

help-same : (p : Picture) (n : ℕ) (hs : List Help)
    → last_help_line (without_colours p) n hs ≡ last_help_line p n hs
unfolding extent
help-same p n [] = refl
help-same p n (h ∷ hs) = help-same p (last_edit_line n (map (placed_edit p) h.edits)) hs

gutter-same : (p : Picture) (d : Diagnostic) → off (gutter_of p d) ≡ gutter_of (without_colours p) d
unfolding extent
gutter-same p d =
    let n = last_label_line 0 (map (label_of p) d.labels) in
    let same : last_line_of (without_colours p) d ≡ last_line_of p d =
    help-same p (last_note_line (without_colours p) n d.notes) d.helps
    ∙ ap (λ k. last_help_line p k d.helps) (note-same p n d.notes) in
    ap (λ (k : ℕ). record {
      columns = length (decimal (p.line_start + k));
      palette = Colourless;
    }) (sym same)

-- The drawing without its colours is the one without colours.
pub diagnostic-coloured : (p : Picture) (d : Diagnostic)
    → IsColourOf (diagnostic_text p d) (diagnostic_text (without_colours p) d)
unfolding diagnostic_text extent
diagnostic-coloured p d =
    let ls = map (label_of p) d.labels in
    let f = frame_of p (gutter_of p d) ls in
    subst (λ g. IsColourOf (drawn_in f d ls) (drawn_in (frame_of (without_colours p) g ls) d ls))
    (gutter-same p d)
    (subst (λ e. IsColourOf (drawn_in f d ls) (drawn_in e d ls)) (frame-same p (gutter_of p d) ls)
    (of_drawn_in f d ls (labels-signs p d.labels)))

-- Without colours the picture is the same.
pub picture-same : (p : Picture) → p.colours ≡ false → p ≡ without_colours p
picture-same p e = ap (λ (b : Bool). record {
  path = p.path;
  source = p.source;
  line_start = p.line_start;
  literal_start = p.literal_start;
  width = p.width;
  colours = b;
}) e

-- A terminal obeys nothing of a drawing but colours.
pub harmless-with : {p : Picture} (f : Picture → List ℕ) → IsColourOf (f p) (f (without_colours p))
    → IsHarmlessWith p.colours (f p)
harmless-with {p = p} f h = by_test p.colours refl
  where
    by_test : (b : Bool) → p.colours ≡ b → IsHarmlessWith b (f p)
    by_test true e = coloured h
    by_test false e = subst (λ q. IsHarmless (f q)) (sym (picture-same p e)) (uncoloured-harmless h)

-- A terminal obeys nothing of it but colours.
pub diagnostic-harmless : (p : Picture) (d : Diagnostic)
    → IsHarmlessWith p.colours (diagnostic_text p d)
diagnostic-harmless p d =
    harmless-with {p = p} (λ q. diagnostic_text q d) (diagnostic-coloured p d)

-- what `put_labels` needs
pub ruleset harmless_diagnostic = (diagnostic-harmless)
