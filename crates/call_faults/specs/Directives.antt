-- Directives of `printf`, as `%d`, and variables of a shell, as `$x`, in a format string.
use Prim.Native.Char.{code}
use Rattle.std.specs.Prelude.{ℕ, Bool, false, not, ◌==◌, ◌&&◌, ◌||◌, if◌then◌else◌, List, [], ◌∷◌}
use Rattle.std.specs.Char.{is_ascii_alphanumeric}
use Rattle.std.specs.Str.{encode_utf8_all}
use Rattle.rustc_parse_format.specs.Types.{Lit, NextArgument, Piece}
use Rattle.rustc_parse_format.specs.World.{Place}

-- The byte is of a length in a directive of `printf`, before its conversion.
abbrev pub is_length : ℕ → Bool
is_length b = b == code "h" || (b == code "j" || (b == code "l" || (b == code "q"
    || (b == code "t" || (b == code "z" || (b == code "I" || b == code "L"))))))

-- The byte makes a directive or a variable of what begins with the mark: `%`, `$`, or 0 if nothing
-- does.
abbrev pub ends_directive : ℕ → ℕ → Bool
ends_directive m b = (m == code "%" && (not (b == code "%") && not (is_length b)))
    || (m == code "$" && (b == code "_" || is_ascii_alphanumeric b))

-- The mark with which a directive may begin after the byte. A mark after itself stands for itself.
abbrev pub next_mark : ℕ → ℕ → ℕ
next_mark m b = if m == code "%" && is_length b then m
    else if not (b == m) && (b == code "%" || b == code "$") then b else 0

-- The bytes, of which the first stands after this mark, have a directive or a variable.
abbrev pub has_directive : ℕ → List ℕ → Bool
has_directive m [] = false
has_directive m (b ∷ bs) = ends_directive m b || has_directive (next_mark m b) bs

-- The piece is text with a directive or a variable.
abbrev pub holds_directive : Piece Place → Bool
holds_directive (Lit t) = has_directive 0 (encode_utf8_all t)
holds_directive (NextArgument a) = false
