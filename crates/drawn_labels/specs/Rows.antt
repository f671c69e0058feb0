-- Labels in one line, and rows of cells under it.
use Rattle.std.specs.Prelude.{ℕ, ◌-◌, Bool, ◌&&◌, ◌||◌, ◌==◌, if◌then◌else◌, map, nat_lt, nat_le}
use Rattle.std.specs.Prelude.{List, encode_utf8}
use Rattle.drawn_lines.specs.Painting.{Piece, piece, pieces}
use Rattle.drawn_labels.specs.declared.cells.Cell.{Cell}
use Rattle.drawn_labels.specs.declared.mark.Mark.{Mark as DeclaredMark}
use Rattle.drawn_lines.specs.declared.paint.Palette.{Palette}
use Rattle.drawn_lines.specs.declared.paint.Style.{Style}
use Rattle.drawn_lines.specs.declared.paint.Style.TheVariants.{Plain, Primary, PrimaryText}
use Rattle.drawn_lines.specs.declared.paint.Style.TheVariants.{Secondary, SecondaryText}

-- A label in one line: the number of the line, counted from 0, the columns that it has, up to the
-- last one and without it, the sign under these columns, and its text.
pub record Mark : Type 0 where
  pub line : ℕ
  pub start : ℕ
  pub end : ℕ
  pub sign : ℕ
  pub text : List ℕ

-- A label as a contract sees it.
abbrev pub seen_mark : DeclaredMark → Mark
seen_mark m = record {
  line = m.line;
  start = m.start;
  end = m.end;
  sign = m.sign;
  text = m.text.now;
}

-- The style of the signs of a label, and of its bar.
abbrev pub style_of : Mark → Style
style_of m = if m.sign == 94 then Primary else Secondary

-- The style of its text.
abbrev pub text_style : Mark → Style
text_style m = if m.sign == 94 then PrimaryText else SecondaryText

-- A character in a style.
abbrev pub cell : Style → ℕ → Cell
cell s c = record { character = c; style = s }

-- A space.
abbrev pub space : Cell
space = cell Plain 32

-- Cells as pieces.
abbrev pub cell_pieces : List Cell → List Piece
cell_pieces cs = map (λ c. piece c.style (encode_utf8 c.character)) cs

-- The characters of cells in their styles.
abbrev pub written_cells : Palette → List Cell → List ℕ
written_cells p cs = pieces p (cell_pieces cs)

-- The label has this column.
abbrev pub has_column : Mark → ℕ → Bool
has_column m c = nat_le m.start c && nat_lt c m.end

-- The first label is covered by the second one, which is shorter, or as long and primary.
abbrev pub is_covered : Mark → Mark → Bool
is_covered m n =
    nat_lt (n.end - n.start) (m.end - m.start)
    || ((n.end - n.start == m.end - m.start) && nat_lt m.sign n.sign)
