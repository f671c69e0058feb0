-- The units of an ordinary string literal: how each is written, which characters it stands for, and
-- which unit a text begins with. The public rule is in the Rust Reference, string literals, for the
-- text between the quotes. A continuation (`STRING_CONTINUE` there) takes all HT, LF, CR and space
-- after its LF, over any number of lines.
use Prim.Native.Char.{code}
use Rattle.std.specs.Prelude.{ℕ, Bool, true, not, ◌&&◌, ◌||◌, ◌==◌, ◌++◌, if◌then◌else◌, nat_lt}
use Rattle.std.specs.Prelude.{nat_le, [], ◌∷◌, length, Option, Some, None, is_some, codes}
use Rattle.std.specs.List.{list_all, filter}
use Rattle.std.specs.Char.{digit_value}
use Rattle.std.specs.Str.Parse.{digits_value}
use Rattle.rustc_parse_format.specs.Characters.{Text, front, rest_after, first_passes}

pub data LiteralUnit : Type 0 where
  -- A character that stands for itself.
  Plain : ℕ → LiteralUnit
  -- A backslash and a letter.
  SimpleEscape : ℕ → LiteralUnit
  -- `\x` and two digits.
  ByteEscape : ℕ → ℕ → LiteralUnit
  -- `\u{..}`, with the text between its braces.
  UnicodeEscape : Text → LiteralUnit
  -- A backslash and an LF, with the white space after them.
  Continuation : Text → LiteralUnit

-- The unit as it is written.
abbrev pub spelling : LiteralUnit → Text
spelling (Plain c) = c ∷ []
spelling (SimpleEscape l) = codes "\\" ++ l ∷ []
spelling (ByteEscape h l) = codes "\\x" ++ h ∷ l ∷ []
spelling (UnicodeEscape w) = codes "\\u{" ++ w ++ codes "}"
spelling (Continuation w) = codes "\\\n" ++ w

-- The character that a backslash and this letter stand for: `\n`, `\r`, `\t` and `\0`, and both
-- quotes and the backslash for themselves. None for any other letter.
abbrev pub escaped_character : ℕ → Option ℕ
escaped_character l =
    if l == code "n" then Some (code "\n") else (if l == code "r" then Some (code "\r") else
    (if l == code "t" then Some (code "\t") else (if l == code "0" then Some (code "\0")
    else (if (l == code "'" || l == code "\"") || l == code "\\" then Some l else None))))

-- The character is `_`.
abbrev pub is_underscore : ℕ → Bool
is_underscore c = c == code "_"

-- The character is a hexadecimal digit.
abbrev pub is_hex : ℕ → Bool
is_hex c = nat_lt (digit_value c) 16

-- The character is an octal digit.
abbrev pub is_octal : ℕ → Bool
is_octal c = nat_lt (digit_value c) 8

-- The digits of a Unicode escape, without the `_` between them.
abbrev pub hex_digits : Text → Text
hex_digits w = filter (λ c. not (is_underscore c)) w

-- The number that the braces of a Unicode escape hold.
abbrev pub unicode_value : Text → ℕ
unicode_value w = digits_value 16 (hex_digits w)

-- The number that the two digits of a byte escape write.
abbrev pub byte_value : ℕ → ℕ → ℕ
byte_value h l = digits_value 16 (h ∷ l ∷ [])

-- The text of an optional character: empty or of one character.
abbrev pub at_most_one : Option ℕ → Text
at_most_one None = []
at_most_one (Some c) = c ∷ []

-- The text that a unit stands for: one character, or none for a continuation.
abbrev pub value : LiteralUnit → Text
value (Plain c) = c ∷ []
value (SimpleEscape l) = at_most_one (escaped_character l)
value (ByteEscape h l) = byte_value h l ∷ []
value (UnicodeEscape w) = unicode_value w ∷ []
value (Continuation w) = []

-- The character stands for itself in an ordinary literal: it is not a quote, a backslash or a CR.
abbrev pub is_plain : ℕ → Bool
is_plain c = not ((c == code "\"" || c == code "\\") || c == code "\r")

-- The character is one that a continuation skips: HT, LF, CR or space.
abbrev pub is_skipped : ℕ → Bool
is_skipped c = ((c == code "\t" || c == code "\n") || c == code "\r") || c == code " "

-- The number is the code of a character: at most 10FFFF and no surrogate.
abbrev pub is_scalar : ℕ → Bool
is_scalar c = nat_lt c 0xD800 || (nat_lt 0xDFFF c && nat_lt c 0x11_0000)

-- One to six hexadecimal digits that write the code of a character. A digit comes first, and any
-- number of `_` may be after each.
abbrev pub is_unicode : Text → Bool
is_unicode w =
    first_passes is_hex w && (list_all (λ c. is_hex c || is_underscore c) w
    && (nat_le (length (hex_digits w)) 6 && is_scalar (unicode_value w)))

-- The unit is well formed.
abbrev pub is_unit : LiteralUnit → Bool
is_unit (Plain c) = is_plain c
is_unit (SimpleEscape l) = is_some (escaped_character l)
is_unit (ByteEscape h l) = is_octal h && is_hex l
is_unit (UnicodeEscape w) = is_unicode w
is_unit (Continuation w) = list_all is_skipped w

-- The unit may be followed by the text r. After a continuation no white space is left that it would
-- skip.
abbrev pub may_precede : LiteralUnit → Text → Bool
may_precede (Plain c) r = true
may_precede (SimpleEscape l) r = true
may_precede (ByteEscape h l) r = true
may_precede (UnicodeEscape w) r = true
may_precede (Continuation w) r = not (first_passes is_skipped r)

-- The unit u with the rest after it, if u is well formed.
abbrev pub with_rest : Text → LiteralUnit → Option (LiteralUnit × Text)
with_rest r u = if is_unit u then Some (u, r) else None

-- The character is not the closing brace of a Unicode escape.
abbrev pub is_inside : ℕ → Bool
is_inside c = not (c == code "}")

-- The Unicode escape with the text w between its braces. None if no closing brace comes next.
abbrev pub at_brace : Text → Text → Option (LiteralUnit × Text)
at_brace w [] = None
at_brace w (c ∷ r) = with_rest r (UnicodeEscape w)

-- The Unicode escape, where its `\u` has been read.
unfoldable pub unicode_at : Text → Option (LiteralUnit × Text)
unicode_at [] = None
unicode_at (c ∷ t) = if c == code "{" then at_brace (front is_inside t) (rest_after is_inside t)
    else None

-- The byte escape, where its `\x` has been read.
unfoldable pub byte_at : Text → Option (LiteralUnit × Text)
byte_at [] = None
byte_at (h ∷ []) = None
byte_at (h ∷ l ∷ r) = with_rest r (ByteEscape h l)

-- The escape, where its backslash has been read.
unfoldable pub escape_at : Text → Option (LiteralUnit × Text)
escape_at [] = None
escape_at (l ∷ t) =
    if l == code "\n" then Some (Continuation (front is_skipped t), rest_after is_skipped t)
    else (if l == code "x" then byte_at t
    else (if l == code "u" then unicode_at t else with_rest t (SimpleEscape l)))

-- The unit at the start of a text, and the rest after it. None if no well-formed unit begins the
-- text.
unfoldable pub unit_at : Text → Option (LiteralUnit × Text)
unit_at [] = None
unit_at (c ∷ t) = if c == code "\\" then escape_at t else with_rest t (Plain c)

-- The text that the unit stands for, and the rest after it.
abbrev pub meaning : Option (LiteralUnit × Text) → Option (Text × Text)
meaning None = None
meaning (Some x) = Some (value x.0, x.1)
