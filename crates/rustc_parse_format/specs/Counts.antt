-- The count, the width and the precision at the start of a text, computed, each with the rest after
-- it. They are those that `Syntax` defines by the grammar of `std::fmt`.
use Prim.Native.Char.{code}
use Rattle.std.specs.Prelude.{if◌then◌else◌, [], ◌∷◌, ◌==◌}
use Rattle.std.specs.Char.{is_ascii_digit}
use Rattle.rustc_parse_format.specs.Characters.{Text, is_id_start, word, after_word, digits}
use Rattle.rustc_parse_format.specs.Characters.{after_digits}
use Rattle.rustc_parse_format.specs.Syntax.{CountText, NumberCount, IndexCount, NameCount, NoCount}
use Rattle.rustc_parse_format.specs.Syntax.{WidthText, PaddedWidth, ZeroIndexWidth, PlainWidth}
use Rattle.rustc_parse_format.specs.Syntax.{PrecisionText, NoPrecision, StarPrecision, DotPrecision}

-- The count of the digits ds, where t is left after them.
abbrev pub after_number : Text → Text → CountText × Text
after_number ds [] = (NumberCount ds, [])
after_number ds (c ∷ t) = if c == code "$" then (IndexCount ds, t) else (NumberCount ds, c ∷ t)

-- The count of the word w at the start of t, where r is left after it. Without a `$` after the word
-- there is no count.
abbrev pub after_name : Text → Text → Text → CountText × Text
after_name t w [] = (NoCount, t)
after_name t w (c ∷ r) = if c == code "$" then (NameCount w, r) else (NoCount, t)

-- The count at the start of a text, and the rest after it.
abbrev pub count : Text → CountText × Text
count [] = (NoCount, [])
count (c ∷ t) =
    if is_ascii_digit c then after_number (digits (c ∷ t)) (after_digits (c ∷ t))
    else (if is_id_start c then after_name (c ∷ t) (word (c ∷ t)) (after_word (c ∷ t))
    else (NoCount, c ∷ t))

-- The width with the count at the start of t, with the flag `0` or without it.
abbrev pub width_with : (CountText → WidthText) → Text → WidthText × Text
width_with make t = (make (count t).0, (count t).1)

-- The width after a `0`, where t is left.
abbrev pub after_zero : Text → WidthText × Text
after_zero [] = width_with PaddedWidth []
after_zero (c ∷ t) = if c == code "$" then (ZeroIndexWidth, t) else width_with PaddedWidth (c ∷ t)

-- The width at the start of a text, and the rest after it.
abbrev pub width : Text → WidthText × Text
width [] = width_with PlainWidth []
width (c ∷ t) = if c == code "0" then after_zero t else width_with PlainWidth (c ∷ t)

-- The precision after a `.`, where t is left.
abbrev pub after_dot : Text → PrecisionText × Text
after_dot [] = (DotPrecision NoCount, [])
after_dot (c ∷ t) = if c == code "*" then (StarPrecision, t)
    else (DotPrecision (count (c ∷ t)).0, (count (c ∷ t)).1)

-- The precision at the start of a text, and the rest after it.
abbrev pub precision : Text → PrecisionText × Text
precision [] = (NoPrecision, [])
precision (c ∷ t) = if c == code "." then after_dot t else (NoPrecision, c ∷ t)
