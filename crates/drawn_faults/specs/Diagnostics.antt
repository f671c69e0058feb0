-- The drawing of a diagnostic under its source, as bytes, from top to bottom. The layout is that of
-- rustc 1.95.
use Rattle.std.specs.Prelude.{ℕ, ◌+◌, ◌++◌, ◌==◌, ◌&&◌, ◌||◌, Bool, true, false, if◌then◌else◌, max}
use Rattle.std.specs.Prelude.{nat_lt, min, List, [], ◌∷◌, map, filter, length, Option, Some, None}
use Rattle.std.specs.Prelude.{unwrap_or, codes, decimal, chars}
use Rattle.std.specs.Option.{option_map_or}
use Rattle.rustc_parse_format.specs.Characters.{Text}
use Rattle.rustc_parse_format.specs.World.{Place}
use Rattle.drawn_lines.specs.Glyphs.{glyph, glyph_bytes, glyph_count, run}
use Rattle.drawn_edits.specs.Helps.{edits_rows, help_word}
use Rattle.drawn_edits.specs.EditedLines.{Edit, edit_in_literal}
use Rattle.drawn_lines.specs.Frames.{Frame, line_indent}
use Rattle.drawn_labels.specs.Labels.{Label, mark_in}
use Rattle.drawn_lines.specs.Lines.{code_row, gap, parting}
use Rattle.drawn_labels.specs.Long.{long_rows}
use Rattle.drawn_labels.specs.Margins.{window_of}
use Rattle.drawn_labels.specs.Marks.{is_right_of, mark_rows, sorted_marks}
use Rattle.drawn_lines.specs.Painting.{painted_text, palette_of}
use Rattle.shown_text.specs.Shown.{shown}
use Rattle.shown_text.specs.declared.gate.Kind.TheVariants.{Line}
use Rattle.drawn_lines.specs.Places.{Picture, extent, origin}
use Rattle.drawn_labels.specs.Rows.{Mark}
use Rattle.drawn_lines.specs.declared.extent.Spot.{Spot}
use Rattle.drawn_lines.specs.declared.paint.Gutter.{Gutter}
use Rattle.drawn_lines.specs.declared.paint.Palette.{Palette}
use Rattle.drawn_lines.specs.declared.paint.Palette.TheVariants.{Colourless, Error, Warning}
use Rattle.drawn_lines.specs.declared.paint.Palette.TheVariants.{Note as NotePalette}
use Rattle.drawn_lines.specs.declared.paint.Style.TheVariants.{Bold, Primary, Secondary}

-- A label: its range, whether the diagnostic is about that range, and its text.
pub record SourceLabel : Type 0 where
  pub span : Place
  pub is_primary : Bool
  pub text : List ℕ

-- A note, and the ranges that it shows.
pub record Note : Type 0 where
  pub text : List ℕ
  pub spans : List Place

-- An edit: the range that it replaces, and the new text.
pub record SourceEdit : Type 0 where
  pub span : Place
  pub text : List ℕ

-- A help, and its edits.
pub record Help : Type 0 where
  pub text : List ℕ
  pub edits : List SourceEdit

-- The whole diagnostic.
pub record Diagnostic : Type 0 where
  pub is_warning : Bool
  pub title : List ℕ
  pub labels : List SourceLabel
  pub notes : List Note
  pub helps : List Help

-- A label with its place in the source.
abbrev pub label_of : Picture → SourceLabel → Label
label_of p l = record {
  sign = if l.is_primary then 94 else 45;
  text = l.text;
  extent = extent p l.span;
}

-- The label of a range that a note shows.
abbrev pub shown_label : Picture → Place → Label
shown_label p s = record { sign = 94; text = []; extent = extent p s }

-- An edit with its place in the source.
abbrev pub placed_edit : Picture → SourceEdit → Edit
placed_edit p e = edit_in_literal p e.text e.span

-- The last line in which one of these labels ends, or `n` if that is further down.
abbrev pub last_label_line : ℕ → List Label → ℕ
last_label_line n [] = n
last_label_line n (l ∷ ls) = last_label_line (max n l.extent.end.line) ls

-- The last line in which one of these edits ends, or `n`.
abbrev pub last_edit_line : ℕ → List Edit → ℕ
last_edit_line n [] = n
last_edit_line n (e ∷ es) = last_edit_line (max n e.extent.end.line) es

-- The last line that a note shows, or `n`.
abbrev pub last_note_line : Picture → ℕ → List Note → ℕ
last_note_line p n [] = n
last_note_line p n (t ∷ ts) =
    last_note_line p (last_label_line n (map (shown_label p) t.spans)) ts

-- The last line that a help edits, or `n`.
abbrev pub last_help_line : Picture → ℕ → List Help → ℕ
last_help_line p n [] = n
last_help_line p n (h ∷ hs) = last_help_line p (last_edit_line n (map (placed_edit p) h.edits)) hs

-- The last line of a diagnostic.
abbrev pub last_line_of : Picture → Diagnostic → ℕ
last_line_of p d =
    last_help_line p
    (last_note_line p (last_label_line 0 (map (label_of p) d.labels)) d.notes) d.helps

-- The lower of two indents, of which a blank line has none.
abbrev pub lower_indent : Option ℕ → Option ℕ → Option ℕ
lower_indent None n = n
lower_indent (Some m) None = Some m
lower_indent (Some m) (Some n) = Some (min m n)

-- The lowest indent of the lines in which these labels begin and end, and of `o`.
abbrev pub lowest_of_labels : Picture → Option ℕ → List Label → Option ℕ
lowest_of_labels p o [] = o
lowest_of_labels p o (l ∷ ls) =
    lowest_of_labels p (lower_indent (lower_indent o (line_indent p l.extent.start.line))
    (line_indent p l.extent.end.line)) ls

-- The layout of labels.
unfoldable pub frame_of : Picture → Gutter → List Label → Frame
frame_of p gutter ls = record {
  picture = p;
  gutter = gutter;
  window = window_of p gutter (unwrap_or (lowest_of_labels p None ls) 0) ls;
}

-- The place s is in a line above t, or in front of it in the same line.
abbrev pub is_before : Spot → Spot → Bool
is_before s t = nat_lt s.line t.line || ((s.line == t.line) && nat_lt s.chars t.chars)

-- The place at which a label begins, if it is primary and that is in front of the one found before.
abbrev pub earlier_spot : Option Spot → Label → Option Spot
earlier_spot found l =
    if (l.sign == 94) && option_map_or (is_before l.extent.start) found true
    then Some l.extent.start else found

-- The first place at which a primary one of these labels begins, or the one found before.
abbrev pub first_of : Option Spot → List Label → Option Spot
first_of found [] = found
first_of found (l ∷ ls) = first_of (earlier_spot found l) ls

-- The first place at which a primary one of these labels begins, or the start of the source.
abbrev pub first_spot : List Label → Spot
first_spot ls = unwrap_or (first_of None ls) origin

-- The labels that begin in the line n.
abbrev pub in_line : ℕ → List Mark → List Mark
in_line n ms = filter (λ m. m.line == n) ms

-- The rows between a line that was drawn, if there is one, and the next one.
abbrev pub gap_after : Frame → Option ℕ → ℕ → List ℕ
gap_after f None n = []
gap_after f (Some m) n = gap f m n

-- A line and the rows under it.
abbrev pub line_rows : Frame → ℕ → List Mark → List ℕ
line_rows f n ms = code_row f n ++ mark_rows f.gutter (in_line n ms)

-- The line n with these labels, unless it was drawn before.
abbrev pub next_line : Frame → Option ℕ → ℕ → List Mark → List ℕ
next_line f before n ms =
    if option_map_or (λ m. m == n) before false then []
    else gap_after f before n ++ line_rows f n ms

-- The lines of these labels, which are sorted, after the line that was drawn before.
abbrev pub marked_lines : Frame → Option ℕ → List Mark → List ℕ
marked_lines f before [] = []
marked_lines f before (m ∷ ms) =
    next_line f before m.line (m ∷ ms) ++ marked_lines f (Some m.line) ms

-- The lines of these labels, each in the line in which it begins.
abbrev pub each_in_line : Frame → List Label → List ℕ
each_in_line f ls = marked_lines f None (sorted_marks is_right_of [] (map (mark_in f) ls))

-- The lines of a label that is alone. One over several lines is drawn so.
abbrev pub single_rows : Frame → Label → List ℕ
single_rows f l = if l.extent.start.line == l.extent.end.line then each_in_line f (l ∷ [])
    else long_rows f l

-- The lines of these labels.
abbrev pub labels_rows : Frame → List Label → List ℕ
labels_rows f [] = each_in_line f []
labels_rows f (l ∷ []) = single_rows f l
labels_rows f (l ∷ k ∷ ls) = each_in_line f (l ∷ k ∷ ls)

-- Where the text is that a diagnostic is about: the path in one line, the line, and the column,
-- which counts characters.
unfoldable pub arrow : Frame → Spot → List ℕ
arrow f at =
    run f.gutter.columns 32 ++ (painted_text f.gutter.palette Secondary (codes "--> ")
    ++ (shown Line f.picture.path ++ (codes ":"
    ++ (decimal (f.picture.line_start + at.line) ++ (codes ":" ++ (decimal (at.chars + 1)
    ++ codes "\n"))))))

-- A title, in these colours, after a word, and the labels under it.
unfoldable pub titled_labels : Frame → Palette → List ℕ → List ℕ → List Label → List ℕ
titled_labels f colours word title ls =
    painted_text f.gutter.palette Primary word
    ++ (painted_text colours Bold (codes ": " ++ glyph_bytes title) ++ (codes "\n"
    ++ (arrow f (first_spot ls) ++ (parting f ++ labels_rows f ls))))

-- The text after a character of a note: after a line feed the margin of the next line.
abbrev pub margin : Gutter → ℕ → List ℕ
margin g c = if c == 10 then run g.columns 32 ++ codes "         " else []

-- A text whose lines but the first one begin with a margin.
abbrev pub indented_text : Gutter → Text → List ℕ
indented_text g [] = []
indented_text g (c ∷ t) = run (glyph_count c) (glyph c) ++ (margin g c ++ indented_text g t)

-- The start of a note.
abbrev pub note_word : Gutter → List ℕ
note_word g =
    run g.columns 32 ++ (codes " " ++ (painted_text g.palette Secondary (codes "= ")
    ++ (painted_text g.palette Bold (codes "note") ++ codes ": ")))

-- A note that shows nothing.
abbrev pub plain_note : Gutter → List ℕ → List ℕ
plain_note g t = note_word g ++ (indented_text g (chars t) ++ codes "\n")

-- The gutter of a note that shows something.
abbrev pub note_gutter : Picture → Gutter → Gutter
note_gutter p g = record { columns = g.columns; palette = palette_of p.colours NotePalette }

-- A note that shows these labels.
abbrev pub shown_note : Picture → Gutter → List ℕ → List Label → List ℕ
shown_note p g t [] = plain_note g t
shown_note p g t (l ∷ ls) =
    titled_labels (frame_of p (note_gutter p g) (l ∷ ls)) Colourless (codes "note") t (l ∷ ls)

-- The notes.
abbrev pub notes_rows : Picture → Gutter → List Note → List ℕ
notes_rows p g [] = []
notes_rows p g (n ∷ ns) = shown_note p g n.text (map (shown_label p) n.spans) ++ notes_rows p g ns

-- The start of a help without edits.
abbrev pub help_row_word : Gutter → List ℕ
help_row_word g =
    run g.columns 32 ++ (codes " " ++ (painted_text g.palette Secondary (codes "= ")
    ++ (painted_text g.palette Bold (codes "help") ++ codes ": ")))

abbrev pub help_by : Frame → List ℕ → List SourceEdit → List ℕ
help_by f t [] = help_row_word f.gutter ++ (indented_text f.gutter (chars t) ++ codes "\n")
help_by f t (e ∷ es) =
    help_word f.gutter.palette ++ (glyph_bytes t ++ (codes "\n"
    ++ edits_rows f (map (placed_edit f.picture) (e ∷ es))))

-- A help and its edits. Without any it is a row, as a note is.
abbrev pub help_rows : Frame → Help → List ℕ
help_rows f h = help_by f h.text h.edits

-- The helps.
abbrev pub helps_rows : Frame → List Help → List ℕ
helps_rows f [] = []
helps_rows f (h ∷ hs) = help_rows f h ++ helps_rows f hs

-- The row between the labels and what is below them, if there is anything.
abbrev pub parting_above : Frame → Diagnostic → List ℕ
parting_above f d =
    if (length d.notes == 0) && (length d.helps == 0) then [] else parting f

-- The word that a title begins with.
abbrev pub level_word : Bool → List ℕ
level_word is_warning = if is_warning then codes "warning" else codes "error"

-- The level whose colours a diagnostic has.
abbrev pub level_of : Bool → Palette
level_of is_warning = if is_warning then Warning else Error

-- The drawing of a diagnostic with these labels in a layout. It ends in an empty line.
unfoldable pub drawn_in : Frame → Diagnostic → List Label → List ℕ
drawn_in f d ls =
    titled_labels f f.gutter.palette (level_word d.is_warning) d.title ls
    ++ (parting_above f d
    ++ (notes_rows f.picture f.gutter d.notes ++ (helps_rows f d.helps ++ codes "\n")))

-- The gutter of a diagnostic.
abbrev pub gutter_of : Picture → Diagnostic → Gutter
gutter_of p d = record {
  columns = length (decimal (p.line_start + last_line_of p d));
  palette = palette_of p.colours (level_of d.is_warning);
}

-- The whole text.
unfoldable pub diagnostic_text : Picture → Diagnostic → List ℕ
diagnostic_text p d =
    let ls = map (label_of p) d.labels in
    drawn_in (frame_of p (gutter_of p d) ls) d ls
