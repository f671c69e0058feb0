-- How characters are drawn in a terminal, and how many columns they take. The rules are those of
-- rustc 1.95, but for the control characters from U+0080 on and for three marks of direction, which
-- rustc writes as they are, and for the widths, which are those of the crate `unicode_width`.
use Rattle.std.specs.Prelude.{ℕ, ◌+◌, Bool, false, ◌&&◌, ◌||◌, ◌==◌, if◌then◌else◌, nat_lt, not}
use Rattle.std.specs.Prelude.{List, [], ◌∷◌, Option, Some, None, unwrap_or, chars, replicate}
use Rattle.std.specs.Prelude.{flat_map}
use Rattle.std.specs.Int.{is_in_range}
use Rattle.std.specs.Char.{is_whitespace}
use Rattle.std.specs.Str.{NoCharPasses, encode_utf8_all}
use Rattle.unicode_width.specs.Width.{char_width}
use Rattle.rustc_parse_format.specs.Characters.{Text}

-- The character has Unicode's property Bidi_Control: it changes the direction of text.
unfoldable pub is_bidi_control : ℕ → Bool
is_bidi_control c =
    c == 0x61C || is_in_range 0x200E 0x200F c || is_in_range 0x202A 0x202E c
    || is_in_range 0x2066 0x2069 c

-- A terminal obeys the character: it has the general category Cc, and is no line feed, or it has
-- the property Bidi_Control.
abbrev pub is_obeyed : ℕ → Bool
is_obeyed c =
    (not (c == 10) && (nat_lt c 32 || is_in_range 127 159 c)) || is_bidi_control c

-- The character that is drawn for a character: itself for a line feed, a space for a tab, a picture
-- for another control character of ASCII, and the replacement character for others that a terminal
-- obeys.
unfoldable pub glyph : ℕ → ℕ
glyph c =
    if c == 9 then 32
    else if c == 10 then 10
    else if nat_lt c 32 then 0x2400 + c
    else if c == 127 then 0x2421
    else if is_in_range 0x80 0x9F c || is_bidi_control c then 0xFFFD
    else c

-- How often that is drawn: a tab is four spaces, and a zero-width joiner is left out.
unfoldable pub glyph_count : ℕ → ℕ
glyph_count c = if c == 9 then 4 else if c == 0x200D then 0 else 1

-- A text as it is drawn.
abbrev pub glyphs : Text → Text
glyphs t = flat_map (λ c. replicate (glyph_count c) (glyph c)) t

-- A terminal obeys no character of a text.
abbrev pub IsHarmless : List ℕ → Type 0
IsHarmless bs = NoCharPasses is_obeyed bs

-- A text as it is drawn, as bytes.
abbrev pub glyph_bytes : List ℕ → List ℕ
glyph_bytes bs = encode_utf8_all (glyphs (chars bs))

-- How many columns a character takes.
unfoldable pub width : ℕ → ℕ
width c =
    if c == 9 then 4
    else if is_bidi_control c then 1
    else unwrap_or (char_width false c) 1

-- How many columns of a line are its indent, with n columns that are before it: a tab counts as
-- four. None if the line is blank.
abbrev pub indent : ℕ → Text → Option ℕ
indent n [] = None
indent n (c ∷ t) =
    if is_whitespace c then indent (n + (if c == 9 then 4 else 1)) t else Some n

-- The byte is one of a character that is drawn as it is: no control character of ASCII, nor the
-- first byte of the characters from U+0080 to U+00BF, from U+0600 to U+063F, and from U+2000 to
-- U+2FFF.
abbrev pub is_drawn_as_is : ℕ → Bool
is_drawn_as_is b = nat_lt 31 b && not ((b == 127 || b == 0xC2) || (b == 0xD8 || b == 0xE2))

-- The byte is one of ASCII, or of a character that is drawn as it is.
abbrev pub is_non_ascii_drawn_as_is : ℕ → Bool
is_non_ascii_drawn_as_is b = nat_lt b 128 || is_drawn_as_is b

-- The character is a printable one of ASCII.
abbrev pub is_printable : ℕ → Bool
is_printable b = nat_lt 31 b && nat_lt b 127

-- A character again and again, as bytes.
abbrev pub run : ℕ → ℕ → List ℕ
run n c = encode_utf8_all (replicate n c)
