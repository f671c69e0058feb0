-- The source around a literal, its lines, and the places in it that a byte offset means.
use Rattle.std.specs.Prelude.{ℕ, ◌+◌, ◌-◌, Bool, true, false, ◌&&◌, ◌==◌, if◌then◌else◌, nat_lt}
use Rattle.std.specs.Prelude.{min, max, zero, suc, List, [], ◌∷◌, length, chars}
use Rattle.std.specs.List.{before_first, after_first, fold}
use Rattle.std.specs.Char.{is_whitespace, len_utf8}
use Rattle.rustc_parse_format.specs.Characters.{Text}
use Rattle.rustc_parse_format.specs.World.{Place}
use Rattle.drawn_lines.specs.Glyphs.{width}
use Rattle.drawn_lines.specs.declared.places.Picture.{Picture as DeclaredPicture}
use Rattle.drawn_lines.specs.declared.extent.Spot.{Spot}
use Rattle.drawn_lines.specs.declared.extent.Extent.{Extent as DeclaredExtent}

-- The source of a drawing: the path of the source, its text, the number of its first line, the
-- byte offset at which the literal begins, how many columns a row has, and whether there are
-- colours.
pub record Picture : Type 0 where
  pub path : List ℕ
  pub source : List ℕ
  pub line_start : ℕ
  pub literal_start : ℕ
  pub width : ℕ
  pub colours : Bool

-- A picture as a contract sees it.
abbrev pub seen_picture : DeclaredPicture → Picture
seen_picture p = record {
  path = p.path.now;
  source = p.source.now;
  line_start = p.line_start;
  literal_start = p.literal_start;
  width = p.width;
  colours = p.colours;
}

-- The picture without colours.
abbrev pub without_colours : Picture → Picture
without_colours p = record {
  path = p.path;
  source = p.source;
  line_start = p.line_start;
  literal_start = p.literal_start;
  width = p.width;
  colours = false;
}

-- The byte is a line feed.
abbrev pub is_line_feed : ℕ → Bool
is_line_feed b = b == 10

-- The rest of a text after its first n lines.
abbrev pub after_lines : ℕ → List ℕ → List ℕ
after_lines zero bs = bs
after_lines (suc n) bs = after_lines n (after_first is_line_feed bs)

-- The first line of a text.
abbrev pub first_line : List ℕ → List ℕ
first_line bs = before_first is_line_feed bs

-- The line with the number n, counted from 0. It is empty after the last one.
unfoldable pub line : ℕ → List ℕ → List ℕ
line n bs = first_line (after_lines n bs)

-- The first characters of a text, as many as end within n bytes.
abbrev pub front_within : ℕ → Text → Text
front_within n [] = []
front_within n (c ∷ t) = if nat_lt n (len_utf8 c) then [] else c ∷ front_within (n - len_utf8 c) t

-- The place at the start of a text: its line, counted from 0, how many characters and columns of
-- that line are before it, and whether these are all white space.
abbrev pub origin : Spot
origin = record { line = 0; chars = 0; column = 0; is_indent = true }

-- The place after a character.
unfoldable pub spot_past : Spot → ℕ → Spot
spot_past p c =
    if c == 10 then record { line = p.line + 1; chars = 0; column = 0; is_indent = true }
    else record {
      line = p.line;
      chars = p.chars + 1;
      column = p.column + width c;
      is_indent = p.is_indent && is_whitespace c;
    }

-- The place at a byte offset, or at the start of the character that has this byte.
abbrev pub spot : ℕ → Text → Spot
spot n t = fold spot_past origin (front_within n t)

-- The byte offset in the source of an offset in the literal, or the end of the source.
abbrev pub offset : Picture → ℕ → ℕ
offset p n = min (p.literal_start + n) (length p.source)

-- The places at which a range begins and ends.
pub record Extent : Type 0 where
  pub start : Spot
  pub end : Spot

-- Such places as a contract sees them.
abbrev pub seen_extent : DeclaredExtent → Extent
seen_extent e = record { start = e.start; end = e.end }

-- Where a range of the literal begins and ends. If it ends before it begins, it is empty.
unfoldable pub extent : Picture → Place → Extent
extent p s = record {
  start = spot (offset p s.0) (chars p.source);
  end = spot (max (offset p s.0) (offset p s.1)) (chars p.source);
}
