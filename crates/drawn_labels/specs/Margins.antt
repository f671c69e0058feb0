-- Which columns of the lines are drawn: those in which labels and their texts are, if that many
-- columns are to be had. The rules are those of rustc 1.95.
use Prim.Native.Char.{code}
use Rattle.std.specs.Prelude.{ℕ, ◌+◌, ◌-◌, ◌*◌, ◌/◌, ◌^◌, ◌==◌, ◌&&◌, Bool, not, if◌then◌else◌}
use Rattle.std.specs.Prelude.{nat_le, nat_lt, min, max, List, [], ◌∷◌, length, chars}
use Rattle.drawn_lines.specs.Places.{Picture, line}
use Rattle.drawn_lines.specs.Windows.{columns}
use Rattle.drawn_lines.specs.declared.paint.Gutter.{Gutter}
use Rattle.drawn_lines.specs.declared.window.Window.{Window}
use Rattle.drawn_labels.specs.Labels.{Label, mark}
use Rattle.drawn_labels.specs.Rows.{Mark}
use Rattle.drawn_labels.specs.declared.margin.Reach.{Reach}

-- How many columns the text of a label with this sign is counted for, with the space in front of
-- it: one for each byte, and no more than 2^60. That of a primary label counts if it has one.
abbrev pub text_columns : ℕ → List ℕ → ℕ
text_columns c bs = if c == code "^" && length bs == 0 then 0 else 1 + min (length bs) (2 ^ 60)

-- How many columns a line of the source has.
abbrev pub line_columns : List ℕ → ℕ → ℕ
line_columns source n = columns (chars (line n source))

-- The reach of a label in a line of a source: the first one of its columns, the one after the last,
-- the one after its text, and how many columns the line has.
unfoldable pub mark_reach : List ℕ → Mark → Reach
mark_reach source m = record {
  start = m.start;
  end = m.end;
  text_end = m.end + text_columns m.sign m.text;
  longest = line_columns source m.line;
}

-- Two reaches as one.
unfoldable pub joined_reach : Reach → Reach → Reach
joined_reach r s = record {
  start = min r.start s.start;
  end = max r.end s.end;
  text_end = max r.text_end s.text_end;
  longest = max r.longest s.longest;
}

-- The label has more than one line.
abbrev pub is_long : Label → Bool
is_long l = not (l.extent.start.line == l.extent.end.line)

-- The reach of a label over several lines. A line between the first and the last one is shown from
-- its start.
unfoldable pub long_reach : List ℕ → Label → Reach
long_reach source l = record {
  start =
      if nat_lt (l.extent.start.line + 1) l.extent.end.line then 0
      else min l.extent.start.column (l.extent.end.column - 1);
  end = max (l.extent.start.column + 1) l.extent.end.column;
  text_end = max (l.extent.start.column + 1) (l.extent.end.column + text_columns l.sign l.text);
  longest =
      max (line_columns source l.extent.start.line) (line_columns source l.extent.end.line);
}

-- The reach of these labels, each in the line in which it begins, and of the reach r.
abbrev pub reach_on : List ℕ → Reach → List Label → Reach
reach_on source r [] = r
reach_on source r (l ∷ ls) = reach_on source (joined_reach r (mark_reach source (mark 0 l))) ls

-- The reach of no label.
abbrev pub no_reach : Reach
no_reach = record { start = 0; end = 0; text_end = 0; longest = 0 }

-- The reach of these labels.
abbrev pub reach_of : List ℕ → List Label → Reach
reach_of source [] = no_reach
reach_of source (l ∷ []) =
    if is_long l then long_reach source l else mark_reach source (mark 0 l)
reach_of source (l ∷ k ∷ ls) = reach_on source (mark_reach source (mark 0 l)) (k ∷ ls)

-- How many of n columns are left beside the space and the bar after a number, and beside the bar of
-- a label that is alone and over several lines.
abbrev pub room : ℕ → List Label → ℕ
room n [] = n - 3
room n (l ∷ []) = n - (if is_long l then 5 else 3)
room n (l ∷ k ∷ ls) = n - 3

-- The window that begins after `start` columns and has n of them.
abbrev pub window_at : ℕ → ℕ → Window
window_at start n = record { start = start; room = n; limit = n }

-- The columns that are cut of lines with this indent: of a deep one 22 columns are left.
abbrev pub cut_of : ℕ → ℕ
cut_of n = if nat_lt 26 n then n - 22 else 0

-- The window around labels, of lines that do not fit into n columns: at the indent if the texts
-- end in the window then, or else around labels and their texts, or around labels, or of as many
-- columns as the labels need. Six columns at each side are for dots.
unfoldable pub window_around : ℕ → ℕ → Reach → Window
window_around n indent r =
    let from = r.start - 6 in
    let texts = r.text_end + 6 - from in
    let labels = r.end + 6 - from in
    if nat_le (r.text_end + 6 - (indent - 6)) n then window_at (indent - 6) n
    else if nat_le texts n then window_at (from - (n - texts) / 2) n
    else if nat_le labels n then window_at (from - (n - labels) / 5 * 2) n
    else window_at from labels

-- The window of n columns for lines with labels of this reach and this indent.
unfoldable pub window : ℕ → ℕ → Reach → Window
window n indent r =
    if nat_lt n (r.longest - cut_of indent) then window_around n indent r
    else record { start = cut_of indent; room = n; limit = r.longest - cut_of indent }

-- The window for these labels, of lines with this indent.
abbrev pub window_of : Picture → Gutter → ℕ → List Label → Window
window_of p g indent ls =
    window (room (p.width - g.columns) ls) indent (reach_of p.source ls)
