-- The lines of a source literal, as byte ranges of the text that is read, and the places of its
-- placeholders. No public document has this rule: it is this project's, and follows the code of
-- rustc's parser.
use Prim.Native.Char.{code}
use Rattle.std.specs.Prelude.{◌≡◌, ℕ, Bool, false, not, ◌&&◌, ◌++◌, ◌==◌, if◌then◌else◌, List, []}
use Rattle.std.specs.Prelude.{◌∷◌, map, Option, Some, None, option_map, IsTrue}
use Rattle.std.specs.List.{list_all}
use Rattle.std.specs.Char.{is_whitespace}
use Rattle.rustc_parse_format.specs.Marks.{Span}
use Rattle.rustc_parse_format.specs.World.{World, Place, place_at, place_of}

-- A character that is read as text, and its place.
abbrev pub PlacedCharacter : Type 0
PlacedCharacter = ℕ × Place

-- These characters with their places in a world. Each is given with the number of characters that
-- are left from it on.
abbrev pub texts_in : World → List (ℕ × ℕ) → List PlacedCharacter
texts_in w cs = map (λ (x : ℕ × ℕ). (x.0, place_at w x.1)) cs

-- The character is a newline.
abbrev pub is_newline : PlacedCharacter → Bool
is_newline x = x.0 == code "\n"

-- The character is white space and starts where the line starts.
abbrev pub is_indent : ℕ → PlacedCharacter → Bool
is_indent start x = is_whitespace x.0 && x.1.0 == start

-- The byte where a line starts after the white space at its start.
abbrev pub indented_start : ℕ → List PlacedCharacter → ℕ
indented_start start [] = start
indented_start start (x ∷ xs) = indented_start (if is_indent start x then x.1.1 else start) xs

-- The characters xs, which are read from `start` on, are cut at their newlines into these lines,
-- and `next` is the start of the line after them. A line ends where its newline starts, and the
-- next line starts where the newline ends.
abbrev pub IsLines : ℕ → List PlacedCharacter → List Place → ℕ → Type 0
IsLines start xs [] next = IsTrue (list_all (λ x. not (is_newline x)) xs)
    × (next ≡ indented_start start xs)
IsLines start xs (line ∷ lines) next =
    (front rest_after : List PlacedCharacter) × (newline : PlacedCharacter)
    × (xs ≡ front ++ newline ∷ rest_after)
    × IsTrue (list_all (λ x. not (is_newline x)) front) × IsTrue (is_newline newline)
    × (line ≡ (indented_start start front, newline.1.0)) × IsLines newline.1.1 rest_after lines next

-- The start of the next line and the lines, computed from the characters that are read.
abbrev pub read_lines : ℕ → List PlacedCharacter → ℕ × List Place
read_lines start [] = (start, [])
read_lines start (x ∷ xs) =
    if is_newline x then ((read_lines x.1.1 xs).0, (start, x.1.0) ∷ (read_lines x.1.1 xs).1)
    else read_lines (if is_indent start x then x.1.1 else start) xs

-- The start of the next line and the lines of characters in a world. Without a source literal there
-- are no lines.
abbrev pub lines_in : World → ℕ → List (ℕ × ℕ) → ℕ × List Place
lines_in w start cs = if w.has_source then read_lines start (texts_in w cs) else (start, [])

-- The place of the placeholder that was closed. None if there is none, or no source literal.
abbrev pub closed_in : World → Option Span → Option Place
closed_in w s = if w.has_source then option_map (place_of w) s else None

-- The list of an optional place: empty or of one place.
abbrev pub place_list : Option Place → List Place
place_list None = []
place_list (Some p) = p ∷ []

-- The place of the placeholder that was closed, as a list.
abbrev pub closed_places : World → Option Span → List Place
closed_places w s = place_list (closed_in w s)

-- The last of these lines is this line.
abbrev pub ends_with : Place → List Place → Bool
ends_with line [] = false
ends_with line (l ∷ []) = (l.0 == line.0) && (l.1 == line.1)
ends_with line (l ∷ m ∷ ls) = ends_with line (m ∷ ls)

-- These lines, ending with this one. It is added only if it is not the last line already.
abbrev pub with_last : Place → List Place → List Place
with_last line ls = if ends_with line ls then ls else ls ++ line ∷ []
