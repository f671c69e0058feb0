-- Numbers without their suffixes. The public rules are in the Rust Reference:
-- DEC_LITERAL : DEC_DIGIT ( DEC_DIGIT | `_` )*
-- BIN_LITERAL, OCT_LITERAL, HEX_LITERAL : `0b`, `0o`, `0x`, and digits or `_`
-- FLOAT_LITERAL : DEC_LITERAL `.` (not immediately followed by `.`, `_` or an XID_Start character)
--     | DEC_LITERAL `.` DEC_LITERAL | DEC_LITERAL ( `.` DEC_LITERAL )? FLOAT_EXPONENT
-- FLOAT_EXPONENT : ( `e` | `E` ) ( `+` | `-` )? `_`* DEC_DIGIT ( DEC_DIGIT | `_` )*.
-- A digit that its base lacks, as in `0b2`, and no digit, as in `0x`, are faults of the content.
-- Where no FLOAT_EXPONENT follows, as in `1e` or `1em`, the `e` begins a suffix.
use Prim.Native.Char.{code}
use Rattle.std.specs.Prelude.{◌≡◌, ℕ, Bool, false, ◌&&◌, ◌||◌, ◌==◌, ◌++◌, ◌⊎◌, IsTrue}
use Rattle.std.specs.Prelude.{if◌then◌else◌, [], ◌∷◌, Option, Some, None, codes}
use Rattle.std.specs.List.{list_all}
use Rattle.rust_tokens.specs.Texts.{Text, HasNoFront}
use Rattle.rust_tokens.specs.Runs.{first_passes, stops, rest_after, IsRun, is_id_start, is_digit}
use Rattle.rust_tokens.specs.Runs.{is_digit_part, is_underscore}

-- `e` and `E` begin an exponent.
abbrev pub is_exponent_mark : ℕ → Bool
is_exponent_mark c = c == code "e" || c == code "E"

-- The sign of an exponent.
abbrev pub is_sign : ℕ → Bool
is_sign c = c == code "+" || c == code "-"

-- The character may not stand after the point of a number.
abbrev pub is_point_or_start : ℕ → Bool
is_point_or_start c = c == code "." || is_id_start c

-- DEC_LITERAL
abbrev pub IsDigits : Text → Type 0
IsDigits t = IsRun is_digit is_digit_part t

-- FLOAT_EXPONENT, by its mark, its sign, the `_`s after that, the first digit and the rest.
abbrev pub IsExponent : Text → Type 0
IsExponent t = (c : ℕ) × (s us : Text) × (d : ℕ) × (w : Text) × IsTrue (is_exponent_mark c)
    × ((s ≡ []) ⊎ ((m : ℕ) × IsTrue (is_sign m) × (s ≡ m ∷ [])))
    × IsTrue (list_all is_underscore us) × IsTrue (is_digit d) × IsTrue (list_all is_digit_part w)
    × (t ≡ c ∷ (s ++ (us ++ d ∷ w)))

-- The rest after a sign, or all if there is none.
abbrev pub after_sign : Text → Text
after_sign [] = []
after_sign (c ∷ t) = if is_sign c then t else c ∷ t

-- The rest after digits that have begun.
abbrev pub after_digits : Text → Option Text
after_digits t = if first_passes is_digit t then Some (rest_after is_digit_part t) else None

-- The rest after an exponent. None if the text begins with none.
abbrev pub after_exponent : Text → Option Text
after_exponent [] = None
after_exponent (c ∷ t) = if is_exponent_mark c
    then after_digits (rest_after is_underscore (after_sign t)) else None

-- The rest after a point that belongs to the number before it. None if there is none.
abbrev pub after_point : Text → Option Text
after_point [] = None
after_point (c ∷ t) =
    if c == code "." && stops is_point_or_start t then Some t else None

-- The text is `0` and the letter of a base.
abbrev pub is_based : Text → Bool
is_based [] = false
is_based (c ∷ []) = false
is_based (c ∷ d ∷ t) =
    c == code "0" && (d == code "b" || (d == code "o" || d == code "x"))

-- The digits b, with the text a after them, are a whole number.
abbrev pub IsDecimal : Text → Text → Type 0
IsDecimal b a = IsDigits b × IsTrue (stops is_digit_part a) × (after_point a ≡ None)
    × HasNoFront IsExponent a × (is_based (b ++ a) ≡ false)

-- A base's letter, digits of a class with `_`, and no more of them at the start of the text a after
-- them.
abbrev pub IsBased : ℕ → (ℕ → Bool) → Text → Text → Type 0
IsBased letter p b a = (w : Text) × IsTrue (list_all p w) × (b ≡ code "0" ∷ letter ∷ w)
    × IsTrue (stops p a)

-- DEC_LITERAL `.`
abbrev pub IsPointed : Text → Text → Type 0
IsPointed b a = (ds : Text) × IsDigits ds × (b ≡ ds ++ codes ".")
    × IsTrue (stops is_point_or_start a) × IsTrue (stops is_digit a)

-- DEC_LITERAL `.` DEC_LITERAL
abbrev pub IsFractional : Text → Text → Type 0
IsFractional b a = (ds fs : Text) × IsDigits ds × IsDigits fs × (b ≡ ds ++ (codes "." ++ fs))
    × IsTrue (stops is_digit_part a) × HasNoFront IsExponent a

-- DEC_LITERAL ( `.` DEC_LITERAL )? FLOAT_EXPONENT
abbrev pub IsScientific : Text → Text → Type 0
IsScientific b a = (ds f x : Text) × IsDigits ds
    × ((f ≡ []) ⊎ ((fs : Text) × IsDigits fs × (f ≡ codes "." ++ fs)))
    × IsExponent x × (b ≡ ds ++ (f ++ x)) × IsTrue (stops is_digit_part a)
