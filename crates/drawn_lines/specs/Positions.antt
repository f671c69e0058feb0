-- The lines of a text and the spots in it, said by the text in front of them. The theorems on
-- lines and spots that are found by reading on are about these.
use Rattle.std.specs.Prelude.{◌≡◌, ℕ, ◌+◌, ◌<◌, ◌≤◌, ◌++◌, List, [], ◌∷◌, length, filter, flat_map}
use Rattle.std.specs.List.{list_all}
use Rattle.std.specs.Char.{is_whitespace, len_utf8}
use Rattle.rustc_parse_format.specs.Characters.{Text, byte_length}
use Rattle.drawn_lines.specs.Places.{is_line_feed}
use Rattle.drawn_lines.specs.Windows.{columns}
use Rattle.drawn_lines.specs.declared.extent.Spot.{Spot}

-- How many line feeds a text has.
abbrev pub line_feeds : List ℕ → ℕ
line_feeds t = length (filter is_line_feed t)

-- The text has no line feed.
abbrev pub IsOneLine : List ℕ → Type 0
IsOneLine t = line_feeds t ≡ 0

-- Each of these texts is one line.
abbrev pub AreLines : List (List ℕ) → Type 0
AreLines [] = Unit {0}
AreLines (l ∷ ls) = IsOneLine l × AreLines ls

-- Lines, each with a line feed at its end.
abbrev pub with_feeds : List (List ℕ) → List ℕ
with_feeds ls = flat_map (λ l. l ++ 10 ∷ []) ls

-- The text is empty, or begins with a line feed.
abbrev pub EndsLine : List ℕ → Type 0
EndsLine [] = Unit {0}
EndsLine (c ∷ t) = c ≡ 10

-- The line of a text with the number n, counted from 0: in front of it are n lines, each with its
-- line feed, and it goes up to the next line feed or to the end of the text.
pub record IsLine (n : ℕ) (text line : List ℕ) : Type 0 where
  pub before : List (List ℕ)
  pub rest : List ℕ
  pub whole : text ≡ with_feeds before ++ (line ++ rest)
  pub count : length before ≡ n
  pub are_lines : AreLines before
  pub is_one : IsOneLine line
  pub ends : EndsLine rest

-- The spot of the character that has the byte n of a text, or of the end of the text without one:
-- in front of it are so many lines, each with its line feed, and then so many characters of the
-- next line, in so many columns.
pub record IsSpot (n : ℕ) (text : Text) (spot : Spot) : Type 0 where
  pub before : List Text
  pub front : Text
  pub rest : Text
  pub whole : text ≡ with_feeds before ++ (front ++ rest)
  pub are_lines : AreLines before
  pub is_one : IsOneLine front
  pub line : spot.line ≡ length before
  pub chars : spot.chars ≡ length front
  pub column : spot.column ≡ columns front
  pub is_indent : spot.is_indent ≡ list_all is_whitespace front
  pub starts : byte_length (with_feeds before ++ front) ≤ n
  pub ends : (c : ℕ) (t : Text) → rest ≡ c ∷ t
      → n < byte_length (with_feeds before ++ front) + len_utf8 c
