-- Where the signs of a label over several lines stand, column by column: the theorem on its lines
-- is about this. The column 0 of a row is its margin, right of the bar after the number; the text
-- of a line begins in the column 2.
use Prim.Native.Char.{code}
use Rattle.std.specs.Prelude.{◌≡◌, ◌<◌, ◌≤◌, ◌⊎◌, ℕ, ◌+◌, ◌-◌, ◌++◌, true, false, zero, suc, List}
use Rattle.std.specs.Prelude.{[], ◌∷◌, chars, codes, encode_utf8_all, length}
use Rattle.rustc_parse_format.specs.Characters.{Text}
use Rattle.drawn_lines.specs.Frames.{Frame}
use Rattle.drawn_lines.specs.Glyphs.{glyphs, run}
use Rattle.drawn_lines.specs.Lines.{AddsLine, after_bar, number_bar, row_under}
use Rattle.drawn_lines.specs.Positions.{IsLine, line_feeds}
use Rattle.drawn_lines.specs.Windows.{shift}
use Rattle.drawn_labels.specs.Labels.{Label}

-- The character in a column of a row. Right of its end are spaces.
abbrev pub character_in : ℕ → Text → ℕ
character_in n [] = code " "
character_in zero (c ∷ row) = c
character_in (suc n) (c ∷ row) = character_in n row

-- The character may stand in the column n of a row that leads from a character in the margin to the
-- sign under the column `to` of a line, with this text right of the sign.
pub record IsInLead (margin to : ℕ) (text : List ℕ) (n c : ℕ) : Type 0 where
  pub in_margin : n ≡ 0 → c ≡ margin
  pub leads : 0 < n → n < to + 2 → c ≡ code "_"
  pub sign : n ≡ to + 2 → c ≡ code "^"
  pub others : to + 2 < n
      → (c ≡ code " ") ⊎ ((k : ℕ) × (n ≡ to + 4 + k) × (c ≡ character_in k (glyphs (chars text))))

-- Such a row is added to a text. Without a text it ends with its sign.
pub record AddsLead (f : Frame) (margin to : ℕ) (text old new : List ℕ) : Type 0 where
  pub row : Text
  pub whole : new ≡ old ++ row_under f.gutter (encode_utf8_all row)
  pub is_lead : (n : ℕ) → IsInLead margin to text n (character_in n row)
  pub ends : text ≡ [] → length row ≡ to + 3

-- A row is added to a text that shows the line of the source with this number, with a sign in its
-- margin.
pub record AddsSigned (f : Frame) (sign : List ℕ) (n : ℕ) (old new : List ℕ) : Type 0 where
  pub text : List ℕ
  pub is_line : n ≤ line_feeds f.picture.source → IsLine n f.picture.source text
  pub whole : new ≡ old ++ (number_bar f n ++ (codes " " ++ (sign
      ++ (after_bar f.gutter.palette (codes " ") f.window (chars text) ++ codes "\n"))))

-- The first line of a label is added to a text: with a slash in its margin if only white space is
-- in front of the label, or else with a row under it that leads to the column of the first
-- character of the label.
pub record AddsFirst (f : Frame) (l : Label) (old new : List ℕ) : Type 0 where
  pub slash : l.extent.start.is_indent ≡ true
      → AddsSigned f (codes "/") l.extent.start.line old new
  pub lead : l.extent.start.is_indent ≡ false
      → (mid : List ℕ) × AddsLine f (codes "   ") l.extent.start.line old mid
      × AddsLead f (code " ") (l.extent.start.column - shift f l.extent.start.line) [] mid new

-- What is drawn of lines between two others: the next one, or dots for as many.
pub data RowsBetween : Type 0 where
  Next : RowsBetween
  Dots : ℕ → RowsBetween

-- The row of dots, with the bar in its margin.
abbrev pub dots_row : Frame → List ℕ
dots_row f = codes "..." ++ (run f.gutter.columns 32 ++ codes "|\n")

-- The lines after `at` and in front of `last` are added to a text, from top to bottom, with a bar
-- in the margin of each row.
abbrev pub AddsBars : Frame → ℕ → ℕ → List RowsBetween → List ℕ → List ℕ → Type 0
AddsBars f at last [] old new = (last ≤ at + 1) × (new ≡ old)
AddsBars f at last (Next ∷ bs) old new = (at + 1 < last) × (mid : List ℕ)
    × AddsSigned f (codes "|") (at + 1) old mid × AddsBars f (at + 1) last bs mid new
AddsBars f at last (Dots n ∷ bs) old new = (at + n < last) × (1 < n)
    × AddsBars f (at + n) last bs (old ++ dots_row f) new

-- The lines of a label are added to a text. Under the last one a row leads from the bar to the
-- column of the last character of the label.
pub record AddsLong (f : Frame) (l : Label) (old new : List ℕ) : Type 0 where
  pub mid : List ℕ
  pub low : List ℕ
  pub end : List ℕ
  pub bars : List RowsBetween
  pub first : AddsFirst f l old mid
  pub between : AddsBars f l.extent.start.line l.extent.end.line bars mid low
  pub last : AddsSigned f (codes "|") l.extent.end.line low end
  pub lead : AddsLead f (code "|") (l.extent.end.column - shift f l.extent.end.line - 1) l.text
      end new
