-- Lines of a drawing, with their labels: without their colours they are those without colours, and
-- a terminal obeys no character of these, but for line feeds.
use Rattle.std.proofs.Common.{◌≡◌, ◌+◌, ◌-◌, ◌∷◌, ℕ, suc, zero, false, List, ap, chars}
use Rattle.std.proofs.Common.{codes, cond, length, max, min, nat_lt, [], not, refl, ◌==◌}
use Rattle.std.proofs.Common.{append-nil, map}
use Rattle.std.specs.Prelude.{◌==◌, ◌&&◌, encode_utf8}
use Rattle.drawn_lines.specs.Glyphs.{IsHarmless, is_obeyed}
use Rattle.drawn_lines.specs.Frames.{Frame}
use Rattle.drawn_lines.specs.Windows.{shift}
use Rattle.drawn_labels.specs.Labels.{Label}
use Rattle.drawn_labels.specs.Long.{bar_gap, bar_row, bar_rows, rows_between, first_rows}
use Rattle.drawn_labels.specs.Long.{is_bare_line}
use Rattle.drawn_labels.specs.Long.{last_rows, lead_text, long_rows, signed_row, without_bare}
use Rattle.drawn_lines.specs.Painting.{IsColourOf}
use Rattle.drawn_labels.specs.Rows.{cell_pieces, written_cells}
use Rattle.drawn_labels.specs.declared.cells.Cell.{Cell}
use Rattle.drawn_lines.specs.declared.paint.Palette.{Palette}
use Rattle.drawn_lines.specs.declared.paint.Palette.TheVariants.{Colourless}
use Rattle.drawn_lines.specs.declared.paint.Style.TheVariants.{Primary, PrimaryText}
use Rattle.drawn_lines.proofs.Coloured.{AreQuiet, either, join, nothing, of_painted, of_pieces}
use Rattle.drawn_lines.proofs.Harmless.{glyphs-harmless, join as join_harmless, run-harmless}
use Rattle.drawn_lines.proofs.Harmless.{text as harmless_text, written-harmless}
use Rattle.std.specs.Str.{NonePass}
use Rattle.drawn_lines.proofs.HarmlessLines.{of_bar, of_dots, of_number_bar}
use Rattle.drawn_lines.proofs.HarmlessLines.{of_source, of_source_line, of_under, plain_frame}
use Rattle.drawn_lines.proofs.HarmlessLines.{spaces, text}

-- rows of cells
abbrev pub Quiet : List Cell → Type 0
Quiet cs = NonePass is_obeyed (map (λ c. c.character) cs)

one-harmless : (c : ℕ) → is_obeyed c ≡ false → IsHarmless (encode_utf8 c)
one-harmless c e = (c ∷ [], append-nil (encode_utf8 c), (e, tt))

quiet-cells : (cs : List Cell) → Quiet cs → AreQuiet (cell_pieces cs)
quiet-cells [] q = tt
quiet-cells (c ∷ cs) q = (one-harmless c.character q.0, quiet-cells cs q.1)

pub of_written : (p : Palette) (cs : List Cell) → Quiet cs
    → IsColourOf (written_cells p cs) (written_cells Colourless cs)
of_written p cs q = of_pieces p (cell_pieces cs) (quiet-cells cs q)

-- a label over several lines
of_signed_row : (f : Frame) {sign : List ℕ} (n : ℕ) → IsHarmless sign
    → IsColourOf (signed_row f sign n) (signed_row (plain_frame f) sign n)
of_signed_row f n h =
    join (of_number_bar f n) (join (text (codes " ") refl)
    (join (of_painted f.gutter.palette Primary h)
    (of_source_line f n (harmless_text (codes " ") refl))))

of_bar_row : (f : Frame) (n : ℕ) → IsColourOf (bar_row f n) (bar_row (plain_frame f) n)
of_bar_row f n = of_signed_row f n (harmless_text (codes "|") refl)

of_bar_rows : (f : Frame) (first n : ℕ)
    → IsColourOf (bar_rows f first n) (bar_rows (plain_frame f) first n)
of_bar_rows f first zero = nothing
of_bar_rows f first (suc n) = join (of_bar_rows f first n) (of_bar_row f (first + suc n))

of_bar_gap : (f : Frame) (first last : ℕ)
    → IsColourOf (bar_gap f first last) (bar_gap (plain_frame f) first last)
unfolding bar_gap
of_bar_gap f first last =
    either (last == first + 2) (of_bar_row f (first + 1))
    (either (nat_lt (first + 2) last)
    (join (of_dots f.gutter.palette) (join (spaces f.gutter.columns)
    (join (of_bar f.gutter.palette Primary) (text (codes "\n") refl)))) nothing)

of_lead : (p : Palette) {front : List ℕ} (n : ℕ) → IsHarmless front
    → IsColourOf (lead_text p front n) (lead_text Colourless front n)
of_lead p n h =
    of_painted p Primary (join_harmless h
    (join_harmless (run-harmless n 95 (written-harmless 95 refl)) (harmless_text (codes "^") refl)))

of_first : (f : Frame) (l : Label) → IsColourOf (first_rows f l) (first_rows (plain_frame f) l)
unfolding first_rows shift
of_first f l =
    either l.extent.start.is_indent
    (of_signed_row f l.extent.start.line (harmless_text (codes "/") refl))
    (join (of_source f l.extent.start.line (harmless_text (codes "   ") refl))
    (of_under f.gutter (of_lead f.gutter.palette
    (l.extent.start.column - shift f l.extent.start.line + 1) (harmless_text (codes " ") refl))))

of_last : (f : Frame) (l : Label) → IsColourOf (last_rows f l) (last_rows (plain_frame f) l)
unfolding last_rows shift
of_last f l =
    join (of_bar_row f l.extent.end.line)
    (of_under f.gutter (join (of_lead f.gutter.palette
    (max (l.extent.end.column - shift f l.extent.end.line) 1)
    (harmless_text (codes "|") refl))
    (either (length l.text == 0) nothing (join (text (codes " ") refl)
    (of_painted f.gutter.palette PrimaryText (glyphs-harmless (chars l.text)))))))

-- the bare lines of the frame without colours are the same
without-same : (f : Frame) (first n : ℕ)
    → without_bare (plain_frame f) first n ≡ without_bare f first n
without-same f first zero = refl
without-same f first (suc n) =
    ap (λ k. cond (is_bare_line f (first + suc n)) k (suc n)) (without-same f first n)

of_between : (f : Frame) (first last : ℕ)
    → IsColourOf (rows_between f first last) (rows_between (plain_frame f) first last)
unfolding rows_between
of_between f first last =
    let n = without_bare f first (min (last - first - 1) 3) in
    rw (without-same f first (min (last - first - 1) 3))
    (join (of_bar_rows f first n)
    (either (nat_lt (first + 5) last && not (is_bare_line f (last - 1)))
    (join (of_bar_gap f (first + n) (last - 1)) (of_bar_row f (last - 1)))
    (of_bar_gap f (first + n) last)))

pub of_long : (f : Frame) (l : Label) → IsColourOf (long_rows f l) (long_rows (plain_frame f) l)
unfolding long_rows
of_long f l =
    join (of_first f l)
    (join (of_between f l.extent.start.line l.extent.end.line) (of_last f l))
