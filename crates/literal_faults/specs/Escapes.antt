-- The fault of an escape that is none of a string literal. The public rules are in the Rust
-- Reference, string literals: QUOTE_ESCAPE, ASCII_ESCAPE and UNICODE_ESCAPE. The kinds and their
-- order are those of the `EscapeError` of `rustc_lexer`. A closing quote ends an escape too early;
-- where the text ends first, the literal has no closing quote.
use Prim.Native.Char.{code}
use Rattle.std.specs.Prelude.{ℕ, Bool, ◌||◌, ◌==◌, if◌then◌else◌, nat_lt, [], ◌∷◌, length}
use Rattle.std.specs.Prelude.{Option, Some, None, Result, Ok, Err}
use Rattle.rustc_parse_format.specs.Characters.{Text, begins_with, front, rest_after}
use Rattle.rustc_parse_format.specs.LiteralUnits.{is_hex, is_underscore, hex_digits, unicode_value}
use Rattle.literal_faults.specs.declared.fault.FaultKind.{FaultKind}
use Rattle.literal_faults.specs.declared.fault.FaultKind.TheVariants.{UnterminatedString}
use Rattle.literal_faults.specs.declared.fault.FaultKind.TheVariants.{InvalidEscape}
use Rattle.literal_faults.specs.declared.fault.FaultKind.TheVariants.{TooShortHexEscape}
use Rattle.literal_faults.specs.declared.fault.FaultKind.TheVariants.{InvalidCharInHexEscape}
use Rattle.literal_faults.specs.declared.fault.FaultKind.TheVariants.{OutOfRangeHexEscape}
use Rattle.literal_faults.specs.declared.fault.FaultKind.TheVariants.{NoBraceInUnicodeEscape}
use Rattle.literal_faults.specs.declared.fault.FaultKind.TheVariants.{InvalidCharInUnicodeEscape}
use Rattle.literal_faults.specs.declared.fault.FaultKind.TheVariants.{EmptyUnicodeEscape}
use Rattle.literal_faults.specs.declared.fault.FaultKind.TheVariants.{UnclosedUnicodeEscape}
use Rattle.literal_faults.specs.declared.fault.FaultKind.TheVariants.{}
use Rattle.literal_faults.specs.declared.fault.FaultKind.TheVariants.{LeadingUnderscoreUnicodeEscape}
use Rattle.literal_faults.specs.declared.fault.FaultKind.TheVariants.{OverlongUnicodeEscape}
use Rattle.literal_faults.specs.declared.fault.FaultKind.TheVariants.{LoneSurrogateUnicodeEscape}
use Rattle.literal_faults.specs.declared.fault.FaultKind.TheVariants.{OutOfRangeUnicodeEscape}

-- The rest after the hexadecimal digit of a byte escape, or the fault if no digit comes next.
abbrev pub after_digit : Text → Result Text FaultKind
after_digit [] = Err UnterminatedString
after_digit (c ∷ t) = if is_hex c then Ok t else
    Err (if c == code "\"" then TooShortHexEscape else InvalidCharInHexEscape c)

-- The fault of a byte escape after its first digit, where t is left. Two digits write a number that
-- is out of range.
abbrev pub second_fault : Result Text FaultKind → FaultKind
second_fault (Err k) = k
second_fault (Ok t) = OutOfRangeHexEscape

-- The fault of a byte escape, by the text after its `\x`.
abbrev pub first_fault : Result Text FaultKind → FaultKind
first_fault (Err k) = k
first_fault (Ok t) = second_fault (after_digit t)

-- The character may be in the braces of a Unicode escape.
abbrev pub is_part : ℕ → Bool
is_part c = is_hex c || is_underscore c

-- The number that these digits write. None if there are more than six.
unfoldable pub number : Text → Option ℕ
number w = if nat_lt 6 (length (hex_digits w)) then None else Some (unicode_value w)

-- The fault of such a number, which is the code of no character.
abbrev pub number_fault : Option ℕ → FaultKind
number_fault None = OverlongUnicodeEscape
number_fault (Some n) =
    if nat_lt 0x10_FFFF n then OutOfRangeUnicodeEscape else LoneSurrogateUnicodeEscape

-- The fault of a Unicode escape with the digits w, by the text after these.
abbrev pub end_fault : Text → Text → FaultKind
end_fault w [] = UnterminatedString
end_fault w (c ∷ t) = if c == code "}" then number_fault (number w) else
    (if c == code "\"" then UnclosedUnicodeEscape else InvalidCharInUnicodeEscape c)

-- The fault of a Unicode escape, by the text after its opening brace.
unfoldable pub braces_fault : Text → FaultKind
braces_fault t = if begins_with (code "_") t then LeadingUnderscoreUnicodeEscape else
    (if begins_with (code "}") t then EmptyUnicodeEscape
    else end_fault (front is_part t) (rest_after is_part t))

-- The fault of a Unicode escape, by the text after its `\u`.
abbrev pub unicode_fault : Text → FaultKind
unicode_fault [] = UnterminatedString
unicode_fault (c ∷ t) = if c == code "{" then braces_fault t else NoBraceInUnicodeEscape

-- The fault of an escape, by the text after its backslash.
abbrev pub escape_fault : Text → FaultKind
escape_fault [] = UnterminatedString
escape_fault (c ∷ t) = if c == code "x" then first_fault (after_digit t) else
    (if c == code "u" then unicode_fault t else InvalidEscape c)
