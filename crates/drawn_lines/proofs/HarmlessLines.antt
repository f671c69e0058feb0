-- Lines of a drawing: without their colours they are those without colours, and a terminal obeys
-- no character of these, but for line feeds.
use Rattle.std.proofs.Common.{◌≡◌, ◌+◌, ◌-◌, ℕ, Bool, true, List, chars, codes, length, nat_lt}
use Rattle.std.proofs.Common.{refl}
use Rattle.std.specs.Prelude.{◌==◌, ◌&&◌, decimal, encode_utf8_all}
use Rattle.rustc_parse_format.specs.Characters.{Text}
use Rattle.drawn_lines.specs.Glyphs.{IsHarmless, glyph_bytes, glyphs, is_obeyed, run}
use Rattle.drawn_lines.specs.Frames.{Frame}
use Rattle.drawn_lines.specs.Lines.{code_row, gap, number_bar, numbered_gutter, after_bar}
use Rattle.drawn_lines.specs.Lines.{source_line, source_row, blank_gutter, row_under, parting}
use Rattle.drawn_lines.specs.Painting.{IsColourOf, painted_text}
use Rattle.drawn_lines.specs.Windows.{after_dots, columns, dots_before, dotted_part, in_window}
use Rattle.drawn_lines.specs.Windows.{is_wide}
use Rattle.drawn_lines.specs.Windows.{left_out_columns, past_columns, shown_line, up_to_dots}
use Rattle.drawn_lines.specs.Windows.{within_columns}
use Rattle.drawn_lines.specs.declared.window.Window.{Window}
use Rattle.drawn_lines.specs.Places.{line, without_colours}
use Rattle.drawn_lines.specs.declared.paint.Gutter.{Gutter}
use Rattle.drawn_lines.specs.declared.paint.Palette.{Palette}
use Rattle.drawn_lines.specs.declared.paint.Palette.TheVariants.{Colourless}
use Rattle.drawn_lines.specs.declared.paint.Style.{Style}
use Rattle.drawn_lines.specs.declared.paint.Style.TheVariants.{Secondary}
use Rattle.drawn_lines.proofs.Coloured.{either, join, nothing, of_closing, of_opening, of_painted}
use Rattle.drawn_lines.proofs.Coloured.{plain}
use Rattle.drawn_lines.proofs.Harmless.{decimal-harmless, glyphs-harmless, none-cond, none-glyphs}
use Rattle.drawn_lines.proofs.Harmless.{none-past, none-within}
use Rattle.drawn_lines.proofs.Harmless.{run-harmless, text as harmless_text, is_written}
use Rattle.drawn_lines.proofs.Harmless.{written-harmless}
use Rattle.std.specs.List.{list_all}
use Rattle.std.specs.Str.{NonePass}

-- A gutter and a layout without colours.
abbrev pub off : Gutter → Gutter
off g = record { columns = g.columns; palette = Colourless }

abbrev pub plain_frame : Frame → Frame
plain_frame f = record {
  picture = without_colours f.picture;
  gutter = off f.gutter;
  window =
      f.window;
}

-- a text of printable characters
pub text : (bs : List ℕ) → list_all is_written bs ≡ true → IsColourOf bs bs
text bs e = plain (harmless_text bs e)

pub of_glyphs : (bs : List ℕ) → IsColourOf (glyph_bytes bs) (glyph_bytes bs)
of_glyphs bs = plain (glyphs-harmless (chars bs))

pub spaces : (n : ℕ) → IsColourOf (run n 32) (run n 32)
spaces n = plain (run-harmless n 32 (written-harmless 32 refl))

-- rows under a line
pub of_bar : (p : Palette) (s : Style)
    → IsColourOf (painted_text p s (codes "|")) (painted_text Colourless s (codes "|"))
of_bar p s = of_painted p s (harmless_text (codes "|") refl)

pub of_blank : (g : Gutter) → IsColourOf (blank_gutter g) (blank_gutter (off g))
of_blank g = join (spaces g.columns) (join (text (codes " ") refl) (of_bar g.palette Secondary))

pub of_under : (g : Gutter) {row other : List ℕ} → IsColourOf row other
    → IsColourOf (row_under g row) (row_under (off g) other)
of_under g h =
    join (of_blank g) (join (text (codes " ") refl) (join h (text (codes "\n") refl)))

-- lines of the source
pub of_numbered : (f : Frame) (n : ℕ) → IsColourOf (numbered_gutter f n)
    (numbered_gutter (plain_frame f) n)
unfolding numbered_gutter
of_numbered f n =
    join (of_opening f.gutter.palette Secondary)
    (join (spaces (f.gutter.columns - length (decimal (f.picture.line_start + n))))
    (join (plain (decimal-harmless (f.picture.line_start + n))) (of_closing f.gutter.palette)))

pub of_number_bar : (f : Frame) (n : ℕ) → IsColourOf (number_bar f n) (number_bar (plain_frame f) n)
of_number_bar f n =
    join (of_numbered f n) (join (text (codes " ") refl) (of_bar f.gutter.palette Secondary))

pub of_dots : (p : Palette)
    → IsColourOf (painted_text p Secondary (codes "..."))
    (painted_text Colourless Secondary (codes "..."))
of_dots p = of_painted p Secondary (harmless_text (codes "...") refl)

of_before : (p : Palette) (w : Window) (t : Text)
    → IsColourOf (dots_before p w t) (dots_before Colourless w t)
of_before p w t =
    either (w.start == 0) nothing (join (of_dots p) (spaces (left_out_columns 3 t - 3)))

of_up_to : (p : Palette) (wide : Bool) (t : Text) → NonePass is_obeyed t
    → IsColourOf (up_to_dots p wide t) (up_to_dots Colourless wide t)
of_up_to p wide t h =
    let n = columns t - 3 in
    either wide (join (plain (within_columns n t, refl, none-within n t h)) (of_dots p))
    (plain (t, refl, h))

of_dotted : (p : Palette) (w : Window) (wide : Bool) (t : Text) → NonePass is_obeyed t
    → IsColourOf (dotted_part p w wide t) (dotted_part Colourless w wide t)
of_dotted p w wide t h =
    join (of_before p w t)
    (of_up_to p wide (after_dots w t) (none-cond (w.start == 0) _ _ h (none-past 3 t h)))

of_shown : (p : Palette) (w : Window) (t : Text)
    → IsColourOf (shown_line p w t) (shown_line Colourless w t)
unfolding shown_line
of_shown p w t =
    let past = none-past w.start (glyphs t) (none-glyphs t) in
    of_dotted p w (is_wide w t) (in_window w (is_wide w t) (glyphs t))
    (none-cond (is_wide w t) _ _ (none-within w.limit (past_columns w.start (glyphs t)) past) past)

of_after_bar : (p : Palette) {front : List ℕ} (w : Window) (t : Text) → IsHarmless front
    → IsColourOf (after_bar p front w t) (after_bar Colourless front w t)
of_after_bar p w t h =
    either ((w.start == 0) && (length (encode_utf8_all (glyphs t)) == 0)) nothing
    (join (plain h) (of_shown p w t))

pub of_source_line : (f : Frame) {front : List ℕ} (n : ℕ) → IsHarmless front
    → IsColourOf (source_line f front n) (source_line (plain_frame f) front n)
unfolding source_line
of_source_line f n h =
    join (of_after_bar f.gutter.palette f.window (chars (line n f.picture.source)) h)
    (text (codes "\n") refl)

pub of_source : (f : Frame) {front : List ℕ} (n : ℕ) → IsHarmless front
    → IsColourOf (source_row f front n) (source_row (plain_frame f) front n)
of_source f n h = join (of_number_bar f n) (of_source_line f n h)

pub of_code : (f : Frame) (n : ℕ) → IsColourOf (code_row f n) (code_row (plain_frame f) n)
of_code f n = of_source f n (harmless_text (codes " ") refl)

pub of_gap : (f : Frame) (first last : ℕ)
    → IsColourOf (gap f first last) (gap (plain_frame f) first last)
unfolding gap
of_gap f first last =
    either (last == first + 2) (of_code f (first + 1))
    (either (nat_lt (first + 2) last)
    (join (of_dots f.gutter.palette) (text (codes "\n") refl)) nothing)

pub of_parting : (f : Frame) → IsColourOf (parting f) (parting (plain_frame f))
unfolding parting
of_parting f = join (of_blank f.gutter) (text (codes "\n") refl)
