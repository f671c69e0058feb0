-- Places in a text as an editor shows them: lines, and in them characters, both from 1. An LF ends
-- a line. A CR before an LF and a byte order mark at the start are no characters of a line.
use Rattle.std.specs.Prelude.{ℕ, Bool, ◌≡◌, ◌+◌, ◌≤◌, ◌==◌, ◌&&◌, ◌++◌, List, [], ◌∷◌, chars, drop}
use Rattle.std.specs.Prelude.{if◌then◌else◌, take}
use Rattle.std.specs.Str.{IsCharBoundary}
use Rattle.rust_tokens.specs.Texts.{Text}
use Rattle.rust_tokens.specs.Runs.{first_passes}
use Rattle.rust_trees.specs.declared.places.KnownPlace.{KnownPlace}
use Rattle.rust_trees.specs.declared.places.Place.{Place}

-- LF
abbrev pub is_lf : ℕ → Bool
is_lf c = c == 10

-- The place after a character at this place. The test says whether an LF follows.
abbrev pub after_char : Place → ℕ → Bool → Place
after_char p c b = if is_lf c then record { line = p.line + 1; column = 1 }
    else (if c == 13 && b then p else record { line = p.line; column = p.column + 1 })

-- The place after the text front at this place, where the text back follows.
abbrev pub place_after : Place → Text → Text → Place
place_after p [] back = p
place_after p (c ∷ front) back =
    place_after (after_char p c (first_passes is_lf (front ++ back))) front back

-- The start of a file.
abbrev pub start : Place
start = record { line = 1; column = 1 }

-- The text without the byte order mark at its start.
abbrev pub without_mark : Text → Text
without_mark [] = []
without_mark (c ∷ t) = if c == 0xFEFF then t else c ∷ t

-- The place in a file that is between these two texts.
abbrev pub place_between : Text → Text → Place
place_between front back = place_after start (without_mark front) back

-- The place of a byte offset, which is at the end of a character or 0.
abbrev pub place_of : List ℕ → ℕ → Place
place_of bs n = place_between (chars (take n bs)) (chars (drop n bs))

-- An offset that is not the start of a text, with its place.
pub record IsKnown (bs : List ℕ) (k : KnownPlace) : Type 0 where
  pub is_after : 1 ≤ k.offset
  pub boundary : IsCharBoundary bs k.offset
  pub place : k.place ≡ place_of bs k.offset
  pub line : k.place.line ≤ k.offset + 1
  pub column : k.place.column ≤ k.offset + 1
