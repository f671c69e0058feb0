-- Where signs stand under a line in which something is added, column by column: the theorem on the
-- rows of edits is about this.
use Prim.Native.Char.{code}
use Rattle.std.specs.Prelude.{◌≡◌, ◌<◌, ◌≤◌, ◌⊎◌, ℕ, ◌+◌, ◌++◌, false, true, if◌then◌else◌, List}
use Rattle.std.specs.Prelude.{[], ◌∷◌, chars, codes, get_or}
use Rattle.std.specs.Char.{is_whitespace}
use Rattle.std.specs.List.{list_all, sum_by}
use Rattle.std.specs.Str.{drop_trailing_whitespace, skip_leading_whitespace}
use Rattle.rustc_parse_format.specs.Characters.{Text}
use Rattle.drawn_lines.specs.Frames.{Frame}
use Rattle.drawn_lines.specs.Glyphs.{width}
use Rattle.drawn_lines.specs.Lines.{numbered_gutter, parting, row_under}
use Rattle.drawn_lines.specs.Painting.{Piece, piece, plain_text}
use Rattle.drawn_lines.specs.declared.paint.Gutter.{Gutter}
use Rattle.drawn_lines.specs.declared.paint.Style.TheVariants.{Addition}
use Rattle.drawn_edits.specs.EditedLines.{Edit, do_remove, new_lines}
use Rattle.drawn_edits.specs.Helps.{drawn_pieces, edited_parts, is_whole}

-- How many columns a text takes.
abbrev pub columns : Text → ℕ
columns t = sum_by width t

-- How many columns parts take.
abbrev pub columns_before : List Piece → ℕ
columns_before xs = sum_by (λ x. columns (chars x.text)) xs

-- The part of a text that has signs: the text without the white space around it, or all of it if it
-- is nothing but white space.
abbrev pub signed_text : Text → Text
signed_text t =
    if list_all is_whitespace t then t else drop_trailing_whitespace (skip_leading_whitespace t)

-- The column of a text is one of this part, right of the white space in front of it.
pub record IsSigned (t : Text) (n : ℕ) : Type 0 where
  pub front : Text
  pub back : Text
  pub whole : t ≡ front ++ (signed_text t ++ back)
  pub is_white : list_all is_whitespace front ≡ true
  pub from : columns front ≤ n
  pub to : n < columns front + columns (signed_text t)

-- The column of a line is such a column of one of its additions.
pub record IsAdded (l : List Piece) (n : ℕ) : Type 0 where
  pub before : List Piece
  pub text : List ℕ
  pub rest : List Piece
  pub whole : l ≡ before ++ piece Addition text ∷ rest
  pub column : ℕ
  pub place : n ≡ columns_before before + column
  pub is_signed : IsSigned (chars text) column

-- In the columns of a row stand a sign under each such column of a line, and spaces elsewhere.
abbrev pub AreSigns : List Piece → List ℕ → Type 0
AreSigns l row = (n : ℕ)
    → (IsAdded l n × (get_or row n (code " ") ≡ code "+"))
    ⊎ ((IsAdded l n → ⊥) × (get_or row n (code " ") ≡ code " "))

-- The row of signs under a line is added to a text.
pub record AddsSigns (g : Gutter) (l : List Piece) (old new : List ℕ) : Type 0 where
  pub row : List ℕ
  pub whole : new ≡ old ++ row_under g row
  pub are_signs : AreSigns l row

-- A line in which something is added, and the row of its signs, are added to a text.
pub record AddsInsertion (f : Frame) (n : ℕ) (l : List Piece) (old new : List ℕ) : Type 0 where
  pub mid : List ℕ
  pub line : mid ≡ old ++ (parting f ++ (numbered_gutter f n ++ (codes " | "
      ++ (plain_text (drawn_pieces l) ++ codes "\n"))))
  pub signs : AddsSigns f.gutter l mid new

-- The rows of edits that only insert something into one line are added to a text.
abbrev pub AddsEdits : Frame → List Edit → List ℕ → List ℕ → Type 0
AddsEdits f [] old new = new ≡ old
AddsEdits f (e ∷ es) old new =
    let xs = edited_parts f e.extent.start.line (e ∷ es) in
    do_remove xs ≡ false → (l : List Piece) → new_lines xs ≡ l ∷ [] → is_whole l ≡ false
    → AddsInsertion f e.extent.start.line l old new
