-- The layout of a picture.
use Rattle.std.specs.Prelude.{ℕ, Option, chars}
use Rattle.drawn_lines.specs.Glyphs.{indent}
use Rattle.drawn_lines.specs.Places.{Picture, seen_picture, line}
use Rattle.drawn_lines.specs.declared.frame.Frame.{Frame as DeclaredFrame}
use Rattle.drawn_lines.specs.declared.paint.Gutter.{Gutter}
use Rattle.drawn_lines.specs.declared.window.Window.{Window}

-- How a picture is laid out: the gutter, and which columns of the lines are drawn.
pub record Frame : Type 0 where
  pub picture : Picture
  pub gutter : Gutter
  pub window : Window

-- A layout as a contract sees it.
abbrev pub seen_frame : DeclaredFrame → Frame
seen_frame f = record { picture = seen_picture f.picture.now; gutter = f.gutter; window = f.window }

-- The indent of a line of the source, unless it is blank.
abbrev pub line_indent : Picture → ℕ → Option ℕ
line_indent p n = indent 0 (chars (line n p.source))
