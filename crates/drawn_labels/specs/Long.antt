-- A label over several lines, as bytes: the lines that it has are joined by a bar at their left.
use Rattle.std.specs.Prelude.{ℕ, ◌+◌, ◌-◌, Bool, true, false, not, ◌&&◌, ◌||◌, ◌==◌, ◌++◌}
use Rattle.std.specs.Prelude.{if◌then◌else◌, nat_lt, min, max, zero, suc, List, [], ◌∷◌, chars}
use Rattle.std.specs.Prelude.{codes, length}
use Rattle.std.specs.List.{list_all}
use Rattle.std.specs.Char.{is_whitespace}
use Rattle.rustc_parse_format.specs.Characters.{Text}
use Rattle.drawn_lines.specs.Glyphs.{glyph_bytes, run}
use Rattle.drawn_lines.specs.Painting.{painted_text}
use Rattle.drawn_lines.specs.Places.{line}
use Rattle.drawn_lines.specs.Lines.{row_under, number_bar, source_line, source_row}
use Rattle.drawn_lines.specs.Frames.{Frame}
use Rattle.drawn_lines.specs.Windows.{shift}
use Rattle.drawn_labels.specs.Labels.{Label}
use Rattle.drawn_lines.specs.declared.paint.Palette.{Palette}
use Rattle.drawn_lines.specs.declared.paint.Style.TheVariants.{Primary, PrimaryText, Secondary}

-- The character is a bracket.
abbrev pub is_bracket : ℕ → Bool
is_bracket c =
    (c == 40) || ((c == 41) || ((c == 91) || ((c == 93) || ((c == 123) || (c == 125)))))

-- The character continues `//` to the start of a documentation comment.
abbrev pub documents : ℕ → Bool
documents c = (c == 47) || (c == 33)

-- A line with this text after `//` is a comment, but no documentation.
abbrev pub is_plain_comment : Text → Bool
is_plain_comment [] = true
is_plain_comment (c ∷ t) = not (documents c)

-- A line with this text after `/` is a comment, but no documentation.
abbrev pub is_comment : Text → Bool
is_comment [] = false
is_comment (c ∷ t) = (c == 47) && is_plain_comment t

-- The line is blank, a comment, or one bracket.
abbrev pub is_bare : Text → Bool
is_bare [] = true
is_bare (c ∷ t) =
    if is_whitespace c then is_bare t
    else if is_bracket c then list_all is_whitespace t
    else (c == 47) && is_comment t

-- The line of the source with this number is bare.
abbrev pub is_bare_line : Frame → ℕ → Bool
is_bare_line f n = is_bare (chars (line n f.picture.source))

-- Of the n lines after a line, how many are left without the bare ones at their end.
abbrev pub without_bare : Frame → ℕ → ℕ → ℕ
without_bare f first zero = 0
without_bare f first (suc n) =
    if is_bare_line f (first + suc n) then without_bare f first n else suc n

-- A line of the source at the right of a sign of the label.
abbrev pub signed_row : Frame → List ℕ → ℕ → List ℕ
signed_row f sign n =
    number_bar f n
    ++ (codes " " ++ (painted_text f.gutter.palette Primary sign ++ source_line f (codes " ") n))

-- A line between the first and the last one.
abbrev pub bar_row : Frame → ℕ → List ℕ
bar_row f n = signed_row f (codes "|") n

-- So many lines after a line.
abbrev pub bar_rows : Frame → ℕ → ℕ → List ℕ
bar_rows f first zero = []
bar_rows f first (suc n) = bar_rows f first n ++ bar_row f (first + suc n)

-- The rows between two lines of the label that are drawn: none, the line between them, or dots
-- for several.
unfoldable pub bar_gap : Frame → ℕ → ℕ → List ℕ
bar_gap f first last =
    if last == first + 2 then bar_row f (first + 1)
    else if nat_lt (first + 2) last then
    painted_text f.gutter.palette Secondary (codes "...")
    ++ (run f.gutter.columns 32 ++ (painted_text f.gutter.palette Primary (codes "|")
    ++ codes "\n"))
    else []

-- A text, a line to a column after it, and the sign at its end.
abbrev pub lead_text : Palette → List ℕ → ℕ → List ℕ
lead_text p front n = painted_text p Primary (front ++ (run n 95 ++ codes "^"))

-- The first line: with a slash in front of it where the label begins with the text of the line, or
-- else with a row under it that leads to where the label begins.
unfoldable pub first_rows : Frame → Label → List ℕ
first_rows f l =
    if l.extent.start.is_indent then signed_row f (codes "/") l.extent.start.line
    else source_row f (codes "   ") l.extent.start.line
    ++ row_under f.gutter
    (lead_text f.gutter.palette (codes " ")
    (l.extent.start.column - shift f l.extent.start.line + 1))

-- The text of a label right of its sign. Without a text there is no space.
abbrev pub end_text : Palette → List ℕ → List ℕ
end_text p text =
    if length text == 0 then [] else codes " " ++ painted_text p PrimaryText (glyph_bytes text)

-- The last line, and the row under it that leads to where the label ends, with its text.
unfoldable pub last_rows : Frame → Label → List ℕ
last_rows f l =
    bar_row f l.extent.end.line
    ++ row_under f.gutter
    (lead_text f.gutter.palette (codes "|")
    (max (l.extent.end.column - shift f l.extent.end.line) 1)
    ++ end_text f.gutter.palette l.text)

-- The rows between the first and the last line: at most three lines after the first one, without
-- bare ones at their end, and the line before the last one if it is far from these and not bare.
unfoldable pub rows_between : Frame → ℕ → ℕ → List ℕ
rows_between f first last =
    let n = without_bare f first (min (last - first - 1) 3) in
    bar_rows f first n
    ++ (if nat_lt (first + 5) last && not (is_bare_line f (last - 1))
    then bar_gap f (first + n) (last - 1) ++ bar_row f (last - 1)
    else bar_gap f (first + n) last)

-- The lines of the label.
unfoldable pub long_rows : Frame → Label → List ℕ
long_rows f l =
    first_rows f l
    ++ (rows_between f l.extent.start.line l.extent.end.line ++ last_rows f l)
