-- How a character is written in a message and in a quoted text, as bytes. ASCII characters are
-- escaped as by `char::escape_debug`.
use Prim.Native.Char.{code}
use Rattle.std.specs.Prelude.{ℕ, Bool, false, not, ◌++◌, ◌&&◌, ◌||◌, ◌==◌, if◌then◌else◌, nat_lt}
use Rattle.std.specs.Prelude.{List, Option, Some}
use Rattle.std.specs.Prelude.{None, codes, encode_utf8}
use Rattle.std.specs.Fmt.{digits}

-- The character's own escape, such as `\n`. None if it has none.
abbrev pub short_escape : ℕ → Option (List ℕ)
short_escape c =
    if c == code "\0" then Some (codes "\\0")
    else (if c == code "\t" then Some (codes "\\t")
    else (if c == code "\r" then Some (codes "\\r")
    else (if c == code "\n" then Some (codes "\\n")
    else (if c == code "'" then Some (codes "\\'") else (if c == code "\"" then Some (codes "\\\"")
    else (if c == code "\\" then Some (codes "\\\\") else None))))))

-- A character without its own escape. An ASCII control character is written by its code, as
-- `\u{7f}`, and any other character as itself.
abbrev pub plainly_written : ℕ → List ℕ
plainly_written c = if nat_lt c (code " ") || c == code "\u{7f}"
    then codes "\\u{" ++ digits 16 false c ++ codes "}" else encode_utf8 c

-- How a character is written in a message and in a quoted text.
unfoldable pub written_character : ℕ → List ℕ
written_character c = elim (short_escape c) [ Some s ↦ s | None ↦ plainly_written c ]

-- The character is written as itself: it has no escape of its own and is no control character.
abbrev pub is_unchanged : ℕ → Bool
is_unchanged c = not (nat_lt c (code " ")) && (not (c == code "\u{7f}") && (not (c == code "\"")
    && (not (c == code "'") && not (c == code "\\"))))
