-- The message of a fault, in the words of rustc where it has any.
use Prim.Native.Char.{code}
use Rattle.std.specs.Prelude.{ℕ, ◌++◌, ◌==◌, if◌then◌else◌, List, [], ◌∷◌, Option, Some, None}
use Rattle.std.specs.Prelude.{false}
use Rattle.std.specs.Prelude.{codes}
use Rattle.std.specs.Fmt.{digits}
use Rattle.std.specs.Int.{is_in_range}
use Rattle.rust_tokens.specs.declared.kinds.Kind.{Kind}
use Rattle.rust_tokens.specs.declared.kinds.Kind.TheVariants.{ByteStr, RawByteStr, CStr, RawCStr}
use Rattle.rust_tokens.specs.declared.kinds.Kind.TheVariants.{Byte, Char, Lifetime, RawLifetime}
use Rattle.literal_faults.specs.declared.fault.FaultKind.{FaultKind}
use Rattle.literal_faults.specs.declared.fault.FaultKind.TheVariants.{NoLiteral, NotString, Suffix}
use Rattle.literal_faults.specs.declared.fault.FaultKind.TheVariants.{UnterminatedString}
use Rattle.literal_faults.specs.declared.fault.FaultKind.TheVariants.{UnterminatedRawString}
use Rattle.literal_faults.specs.declared.fault.FaultKind.TheVariants.{InvalidEscape}
use Rattle.literal_faults.specs.declared.fault.FaultKind.TheVariants.{TooShortHexEscape}
use Rattle.literal_faults.specs.declared.fault.FaultKind.TheVariants.{InvalidCharInHexEscape}
use Rattle.literal_faults.specs.declared.fault.FaultKind.TheVariants.{OutOfRangeHexEscape}
use Rattle.literal_faults.specs.declared.fault.FaultKind.TheVariants.{NoBraceInUnicodeEscape}
use Rattle.literal_faults.specs.declared.fault.FaultKind.TheVariants.{InvalidCharInUnicodeEscape}
use Rattle.literal_faults.specs.declared.fault.FaultKind.TheVariants.{EmptyUnicodeEscape}
use Rattle.literal_faults.specs.declared.fault.FaultKind.TheVariants.{UnclosedUnicodeEscape}
use Rattle.literal_faults.specs.declared.fault.FaultKind.TheVariants.{}
use Rattle.literal_faults.specs.declared.fault.FaultKind.TheVariants.{LeadingUnderscoreUnicodeEscape}
use Rattle.literal_faults.specs.declared.fault.FaultKind.TheVariants.{OverlongUnicodeEscape}
use Rattle.literal_faults.specs.declared.fault.FaultKind.TheVariants.{LoneSurrogateUnicodeEscape}
use Rattle.literal_faults.specs.declared.fault.FaultKind.TheVariants.{OutOfRangeUnicodeEscape}
use Rattle.literal_faults.specs.declared.fault.FaultKind.TheVariants.{BareCarriageReturn}
use Rattle.literal_faults.specs.declared.fault.FaultKind.TheVariants.{TrailingText}

-- The title where a token of this kind stands in place of a string literal.
abbrev pub found_title : Kind → List ℕ
found_title ByteStr = codes "expected a string literal, found a byte string literal"
found_title RawByteStr = codes "expected a string literal, found a byte string literal"
found_title CStr = codes "expected a string literal, found a C string literal"
found_title RawCStr = codes "expected a string literal, found a C string literal"
found_title Byte = codes "expected a string literal, found a byte literal"
found_title Char = codes "expected a string literal, which has double quotes"
found_title Lifetime = codes "expected a string literal, which has double quotes"
found_title RawLifetime = codes "expected a string literal, which has double quotes"
found_title k = codes "expected a string literal"

-- The title of a fault.
abbrev pub title : FaultKind → List ℕ
title NoLiteral = codes "expected a string literal, found nothing"
title (NotString k) = found_title k
title UnterminatedString = codes "unterminated double quote string"
title UnterminatedRawString = codes "unterminated raw string"
title (InvalidEscape c) = codes "unknown character escape"
title TooShortHexEscape = codes "numeric character escape is too short"
title (InvalidCharInHexEscape c) = codes "invalid character in numeric character escape"
title OutOfRangeHexEscape = codes "out of range hex escape"
title NoBraceInUnicodeEscape = codes "incorrect unicode escape sequence"
title (InvalidCharInUnicodeEscape c) = codes "invalid character in unicode escape"
title EmptyUnicodeEscape = codes "empty unicode escape"
title UnclosedUnicodeEscape = codes "unterminated unicode escape"
title LeadingUnderscoreUnicodeEscape = codes "invalid start of unicode escape: `_`"
title OverlongUnicodeEscape = codes "overlong unicode escape"
title LoneSurrogateUnicodeEscape =
    codes "invalid unicode character escape, which must not be a surrogate"
title OutOfRangeUnicodeEscape =
    codes "invalid unicode character escape, which must be at most 10FFFF"
title BareCarriageReturn = codes "bare CR not allowed in string, use `\\r` instead"
title Suffix = codes "suffixes on string literals are invalid"
title TrailingText = codes "unexpected text after the string literal"

-- The character that a message names.
abbrev pub named_character : FaultKind → Option ℕ
named_character (InvalidEscape c) = Some c
named_character (InvalidCharInHexEscape c) = Some c
named_character (InvalidCharInUnicodeEscape c) = Some c
named_character k = None

-- A character in a message: printable ASCII as it is, and any other as an escape.
abbrev pub shown_character : ℕ → List ℕ
shown_character c = if is_in_range 0x20 0x7E c then c ∷ [] else
    (if c == code "\t" then codes "\\t" else (if c == code "\r" then codes "\\r" else
    (if c == code "\n" then codes "\\n" else codes "\\u{" ++ digits 16 false c ++ codes "}")))

-- The end of a message after its title: the character that it names, or nothing.
abbrev pub named_end : Option ℕ → List ℕ
named_end None = []
named_end (Some c) = codes ": `" ++ (shown_character c ++ codes "`")

-- The message of a fault.
abbrev pub message : FaultKind → List ℕ
message k = title k ++ named_end (named_character k)
