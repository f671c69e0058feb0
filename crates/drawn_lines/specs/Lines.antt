-- Lines of the source and gutters of rows, as bytes.
use Rattle.std.specs.Prelude.{◌≡◌, ◌≤◌, ℕ, ◌+◌, ◌-◌, ◌==◌, ◌&&◌, ◌++◌, if◌then◌else◌, nat_lt, List}
use Rattle.std.specs.Prelude.{[]}
use Rattle.std.specs.Prelude.{length, chars, codes, decimal}
use Rattle.std.specs.Str.{encode_utf8_all}
use Rattle.rustc_parse_format.specs.Characters.{Text}
use Rattle.drawn_lines.specs.Glyphs.{glyphs, run}
use Rattle.drawn_lines.specs.Painting.{closing, opening, painted_text}
use Rattle.drawn_lines.specs.Places.{line}
use Rattle.drawn_lines.specs.Frames.{Frame}
use Rattle.drawn_lines.specs.Positions.{IsLine, line_feeds}
use Rattle.drawn_lines.specs.Windows.{dots, shown_line}
use Rattle.drawn_lines.specs.declared.paint.Palette.{Palette}
use Rattle.drawn_lines.specs.declared.paint.Style.TheVariants.{Secondary}
use Rattle.drawn_lines.specs.declared.paint.Gutter.{Gutter}
use Rattle.drawn_lines.specs.declared.window.Window.{Window}

-- The gutter of a row that has no number.
abbrev pub blank_gutter : Gutter → List ℕ
blank_gutter g = run g.columns 32 ++ (codes " " ++ painted_text g.palette Secondary (codes "|"))

-- A row under a line: the gutter, and a text right of it.
abbrev pub row_under : Gutter → List ℕ → List ℕ
row_under g row = blank_gutter g ++ (codes " " ++ (row ++ codes "\n"))

-- The number of a line of the source in the gutter, at its right.
unfoldable pub numbered_gutter : Frame → ℕ → List ℕ
numbered_gutter f n =
    opening f.gutter.palette Secondary
    ++ (run (f.gutter.columns - length (decimal (f.picture.line_start + n))) 32
    ++ (decimal (f.picture.line_start + n) ++ closing f.gutter.palette))

-- A number, and the bar after it.
abbrev pub number_bar : Frame → ℕ → List ℕ
number_bar f n =
    numbered_gutter f n ++ (codes " " ++ painted_text f.gutter.palette Secondary (codes "|"))

-- The text after a bar: a line after a text in front of it, or nothing for an empty line.
abbrev pub after_bar : Palette → List ℕ → Window → Text → List ℕ
after_bar p front w t =
    if (w.start == 0) && (length (encode_utf8_all (glyphs t)) == 0) then []
    else front ++ shown_line p w t

-- A line of the source, after a text in front of it.
unfoldable pub source_line : Frame → List ℕ → ℕ → List ℕ
source_line f front n =
    after_bar f.gutter.palette front f.window (chars (line n f.picture.source)) ++ codes "\n"

-- A line of the source with its number, after a text in front of it.
abbrev pub source_row : Frame → List ℕ → ℕ → List ℕ
source_row f front n = number_bar f n ++ source_line f front n

-- A line of the source.
abbrev pub code_row : Frame → ℕ → List ℕ
code_row f n = source_row f (codes " ") n

-- The rows between two lines with labels: none, the line between them, or dots for several.
unfoldable pub gap : Frame → ℕ → ℕ → List ℕ
gap f first last =
    if last == first + 2 then code_row f (first + 1)
    else if nat_lt (first + 2) last then dots f.gutter.palette ++ codes "\n" else []

-- The row between two parts of the drawing.
unfoldable pub parting : Frame → List ℕ
parting f = blank_gutter f.gutter ++ codes "\n"

-- A row is added to a text that shows the line of the source with this number, cut to the window:
-- its number, and after the bar the line, after a text in front of it.
pub record AddsLine (f : Frame) (front : List ℕ) (n : ℕ) (old new : List ℕ) : Type 0 where
  pub text : List ℕ
  pub is_line : n ≤ line_feeds f.picture.source → IsLine n f.picture.source text
  pub whole : new ≡ old ++ (number_bar f n
      ++ (after_bar f.gutter.palette front f.window (chars text) ++ codes "\n"))
