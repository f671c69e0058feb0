-- Texts as they are shown: in a line for a person, in a workflow command of GitHub, and in a string
-- of JSON (RFC 8259, section 7). In each of these a terminal obeys no character, and none ends the
-- line.
use Rattle.std.specs.Prelude.{◌≡◌, ℕ, ◌/◌, ◌%◌, Bool, true, false, not, ◌&&◌, ◌||◌, ◌==◌, nat_lt}
use Rattle.std.specs.Prelude.{List, [], ◌∷◌, ◌++◌, Some, chars, codes, flat_map}
use Rattle.std.specs.Prelude.{if◌then◌else◌}
use Rattle.std.specs.Char.{digit_char}
use Rattle.std.specs.Str.{NoCharPasses, encode_utf8_all}
use Rattle.std.specs.Str.Lossy.{utf8_lossy}
use Rattle.json.specs.Print.{escape_letter}
use Rattle.json.specs.Text.{content, plain}
use Rattle.rustc_parse_format.specs.Characters.{Text}
use Rattle.drawn_lines.specs.Glyphs.{glyph, glyph_bytes, is_obeyed, is_printable}
use Rattle.shown_text.specs.declared.gate.Kind.{Kind}
use Rattle.shown_text.specs.declared.gate.Kind.TheVariants.{Line, Property, Message, Json}

-- The character ends a line: LF, or Unicode's separator of lines or of paragraphs. (A terminal
-- obeys each other one that does.)
abbrev pub ends_line : ℕ → Bool
ends_line c = c == 10 || (c == 0x2028 || c == 0x2029)

-- A terminal obeys no character of a text, and none ends a line.
abbrev pub IsOneLine : List ℕ → Type 0
IsOneLine bs = NoCharPasses (λ c. ends_line c || is_obeyed c) bs

-- A reader of JSON, by the grammar of RFC 8259 that the crate `json` states, reads these bytes as
-- this text: it does so before the closing quote of a string, whatever comes after that.
abbrev pub IsReadAs : List ℕ → List ℕ → Type 0
IsReadAs bs text = (rest : List ℕ) → content plain (bs ++ 34 ∷ rest) ≡ Some text

-- The text is one line with its end, of which a terminal obeys no character.
abbrev pub IsLine : List ℕ → Type 0
IsLine bs = (front : List ℕ) × (bs ≡ front ++ codes "\n") × IsOneLine front

-- The character that a line has for a character: the picture of the line feed, the replacement
-- character for the other ends of a line, and otherwise as drawings have it.
unfoldable pub line_char : ℕ → ℕ
line_char c = if c == 10 then 0x240A else if ends_line c then 0xFFFD else glyph c

-- A character in a workflow command: in a property, or in its message.
abbrev pub command_char : Bool → ℕ → Text
command_char is_property c =
    if c == 37 then codes "%25"
    else if c == 13 then codes "%0D"
    else if c == 10 then codes "%0A"
    else if is_property && c == 58 then codes "%3A"
    else if is_property && c == 44 then codes "%2C"
    else line_char c ∷ []

-- The long escape of a character below U+10000.
abbrev pub code_text : ℕ → Text
code_text c = codes "\\u" ++ (digit_char (c / 4096 % 16) ∷ digit_char (c / 256 % 16)
    ∷ digit_char (c / 16 % 16) ∷ digit_char (c % 16) ∷ [])

-- A character in a string of JSON: by its short escape, if it has one, and by its long one, if a
-- line has another character for it.
abbrev pub json_char : ℕ → Text
json_char c = if nat_lt 0 (escape_letter c) then 92 ∷ escape_letter c ∷ []
    else if line_char c == c then c ∷ []
    else code_text c

-- A character in a kind of text.
abbrev pub char_text : Kind → ℕ → Text
char_text Line c = line_char c ∷ []
char_text Property c = command_char true c
char_text Message c = command_char false c
char_text Json c = json_char c

-- A text in a kind.
abbrev pub shown : Kind → List ℕ → List ℕ
shown k bs = encode_utf8_all (flat_map (char_text k) (chars bs))

-- Bytes as a terminal gets them: as drawings have their text, with the replacement character for
-- bytes that are not UTF-8.
abbrev pub drawn : List ℕ → List ℕ
drawn bs = glyph_bytes (utf8_lossy bs)

-- The byte is a printable character of ASCII that stands for itself in a kind of text.
abbrev pub is_plain : Kind → ℕ → Bool
is_plain Line b = is_printable b
is_plain Property b = is_printable b && not (b == 37 || (b == 58 || b == 44))
is_plain Message b = is_printable b && not (b == 37)
is_plain Json b = is_printable b && not (b == 34 || b == 92)
