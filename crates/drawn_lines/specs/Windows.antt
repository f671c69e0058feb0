-- How lines of the source are cut to a width. The rules are those of rustc 1.95, but where it puts
-- dots over zero-width characters at the end of a line, of which it leaves some.
use Rattle.std.specs.Prelude.{◌≡◌, ℕ, ◌+◌, ◌-◌, ◌++◌, ◌==◌, Bool, true, if◌then◌else◌, nat_lt}
use Rattle.std.specs.Prelude.{List, [], ◌∷◌}
use Rattle.std.specs.Prelude.{chars, codes}
use Rattle.std.specs.Str.{encode_utf8_all}
use Rattle.rustc_parse_format.specs.Characters.{Text}
use Rattle.drawn_lines.specs.Frames.{Frame}
use Rattle.drawn_lines.specs.Glyphs.{glyphs, run, width}
use Rattle.drawn_lines.specs.Painting.{painted_text}
use Rattle.drawn_lines.specs.Places.{line}
use Rattle.drawn_lines.specs.declared.paint.Palette.{Palette}
use Rattle.drawn_lines.specs.declared.paint.Style.TheVariants.{Secondary}
use Rattle.drawn_lines.specs.declared.window.Window.{Window}

-- How many columns a text takes.
abbrev pub columns : Text → ℕ
columns [] = 0
columns (c ∷ t) = width c + columns t

-- A text without its first n columns, and without a character that is in one of these and the next.
abbrev pub past_columns : ℕ → Text → Text
past_columns n [] = []
past_columns n (c ∷ t) = if n == 0 then c ∷ t else past_columns (n - width c) t

-- How many columns are left out then.
abbrev pub left_out_columns : ℕ → Text → ℕ
left_out_columns n [] = 0
left_out_columns n (c ∷ t) = if n == 0 then 0 else width c + left_out_columns (n - width c) t

-- The first characters of a text, as many as end within n columns.
abbrev pub within_columns : ℕ → Text → Text
within_columns n [] = []
within_columns n (c ∷ t) =
    if nat_lt n (width c) then [] else c ∷ within_columns (n - width c) t

-- A line has more columns right of the start of the window than there is room for.
abbrev pub is_wide : Window → Text → Bool
is_wide w t = nat_lt w.room (columns t - w.start)

-- The part of a line in the window.
abbrev pub in_window : Window → Bool → Text → Text
in_window w wide t =
    if wide then within_columns w.limit (past_columns w.start t) else past_columns w.start t

-- The dots where a line is cut.
abbrev pub dots : Palette → List ℕ
dots p = painted_text p Secondary (codes "...")

-- The dots over the first characters of a part of a line, if the line is cut in front of it.
abbrev pub dots_before : Palette → Window → Text → List ℕ
dots_before p w t = if w.start == 0 then [] else dots p ++ run (left_out_columns 3 t - 3) 32

-- The rest of the part.
abbrev pub after_dots : Window → Text → Text
after_dots w t = if w.start == 0 then t else past_columns 3 t

-- This rest, with dots over its last characters if the line goes on.
abbrev pub up_to_dots : Palette → Bool → Text → List ℕ
up_to_dots p wide t =
    if wide then encode_utf8_all (within_columns (columns t - 3) t) ++ dots p
    else encode_utf8_all t

-- A part of a line as it is drawn.
abbrev pub dotted_part : Palette → Window → Bool → Text → List ℕ
dotted_part p w wide t = dots_before p w t ++ up_to_dots p wide (after_dots w t)

-- What is drawn of a line between the dots.
abbrev pub between_dots : Window → Text → Text
between_dots w t =
    let s = after_dots w (in_window w (is_wide w t) (glyphs t)) in
    if is_wide w t then within_columns (columns s - 3) s else s

-- How many columns a line takes that is cut at its end, with the dots.
abbrev pub cut_columns : Window → Text → ℕ
cut_columns w t =
    let s = in_window w true (glyphs t) in
    let rest = after_dots w s in
    (if w.start == 0 then 0 else 3 + (left_out_columns 3 s - 3))
    + (columns (within_columns (columns rest - 3) rest) + 3)

-- The text s is a part of t.
abbrev pub IsPartOf : Text → Text → Type 0
IsPartOf s t = (before : Text) × (after : Text) × (t ≡ before ++ (s ++ after))

-- A line as it is drawn.
unfoldable pub shown_line : Palette → Window → Text → List ℕ
shown_line p w t = dotted_part p w (is_wide w t) (in_window w (is_wide w t) (glyphs t))

-- How many columns at the start of a line of the source are cut.
unfoldable pub shift : Frame → ℕ → ℕ
shift f n = left_out_columns f.window.start (glyphs (chars (line n f.picture.source)))
