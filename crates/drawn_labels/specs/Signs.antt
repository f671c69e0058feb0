-- Where the signs and the texts of labels stand in the rows under a line, column by column: the
-- theorems on rows that are drawn are about this.
use Rattle.std.specs.Prelude.{◌≡◌, ◌⊎◌, ℕ, ◌+◌, ◌++◌, true, false, zero, suc, List, []}
use Rattle.std.specs.Prelude.{◌∷◌, codes, flat_map}
use Rattle.std.specs.List.{AllByRecursion}
use Rattle.drawn_lines.specs.Frames.{Frame}
use Rattle.drawn_lines.specs.Lines.{AddsLine, row_under}
use Rattle.drawn_lines.specs.declared.paint.Gutter.{Gutter}
use Rattle.drawn_labels.specs.Marks.{cells}
use Rattle.drawn_labels.specs.Rows.{Mark, cell, has_column, space, style_of, text_style}
use Rattle.drawn_labels.specs.Rows.{written_cells}
use Rattle.drawn_labels.specs.declared.cells.Cell.{Cell}

-- The cell in a column of a row. Right of its end are spaces.
abbrev pub cell_in : ℕ → List Cell → Cell
cell_in n [] = space
cell_in zero (c ∷ row) = c
cell_in (suc n) (c ∷ row) = cell_in n row

-- The label is one of these.
abbrev pub IsAmong : Mark → List Mark → Type 0
IsAmong m [] = ⊥
IsAmong m (n ∷ ns) = (m ≡ n) ⊎ IsAmong m ns

-- The cell is the sign of a label that has the column.
abbrev pub IsSign : List Mark → ℕ → Cell → Type 0
IsSign ms n c =
    (m : Mark) × IsAmong m ms × (has_column m n ≡ true) × (c ≡ cell (style_of m) m.sign)

-- No label has the column.
abbrev pub IsFree : List Mark → ℕ → Type 0
IsFree ms n = (m : Mark) → IsAmong m ms → has_column m n ≡ false

-- The cell is a character of the text of a label, which begins in the column that is given for it.
abbrev pub IsText : (Mark → ℕ) → List Mark → ℕ → Cell → Type 0
IsText start ms n c =
    (m : Mark) × IsAmong m ms × (k : ℕ) × (n ≡ start m + k)
    × (c ≡ cell_in k (cells (text_style m) m.text))

-- The column in which the text of a label begins right of its signs.
abbrev pub column_right_of : Mark → ℕ
column_right_of m = m.end + 1

-- The column in which it begins below them.
abbrev pub column_below : Mark → ℕ
column_below m = m.start

-- The cell may stand in this column of the row of signs: it is the sign of a label there, or no
-- label is there, and it is a space or in the text of a label.
abbrev pub IsInSigns : List Mark → ℕ → Cell → Type 0
IsInSigns ms n c = IsSign ms n c ⊎ (IsFree ms n × ((c ≡ space) ⊎ IsText column_right_of ms n c))

-- The cell is the bar of a label that begins in this column.
abbrev pub IsBar : List Mark → ℕ → Cell → Type 0
IsBar ms n c = (m : Mark) × IsAmong m ms × (n ≡ m.start) × (c ≡ cell (style_of m) 124)

-- The cell may stand in this column of a row below the signs: it is a space, a bar, or in the text
-- of a label.
abbrev pub IsInBars : List Mark → ℕ → Cell → Type 0
IsInBars ms n c = (c ≡ space) ⊎ (IsBar ms n c ⊎ IsText column_below ms n c)

-- The rows under a line with these labels are added to a text: one row of signs, and then rows of
-- bars and texts.
pub record AddsRows (g : Gutter) (ms : List Mark) (old new : List ℕ) : Type 0 where
  pub signs : List Cell
  pub others : List (List Cell)
  pub whole : new ≡ old ++ flat_map (λ row. row_under g (written_cells g.palette row))
      (signs ∷ others)
  pub are_signs : (n : ℕ) → IsInSigns ms n (cell_in n signs)
  pub are_bars : AllByRecursion (λ row. (n : ℕ) → IsInBars ms n (cell_in n row)) others

-- A line of the source and the rows under it, with these labels, are added to a text.
pub record AddsLabels (f : Frame) (n : ℕ) (ms : List Mark) (old new : List ℕ) : Type 0 where
  pub mid : List ℕ
  pub line : AddsLine f (codes " ") n old mid
  pub rows : AddsRows f.gutter ms mid new
