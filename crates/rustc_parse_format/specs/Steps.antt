-- The number of steps that a cursor takes. Reading one character is one step. Looking ahead is
-- none, and going back is none. So the steps are the characters that were read and those that were
-- given back to be read again.
use Rattle.std.specs.Prelude.{ℕ, ◌+◌, ◌-◌, ◌*◌, ◌≤◌, length, max}
use Rattle.rustc_parse_format.specs.Characters.{Text}
use Rattle.rustc_parse_format.specs.Rewinds.{Rewinds}

-- The number of characters that have been read.
abbrev pub position : Text → Text → ℕ
position input rest = length input - length rest

-- The number of steps that were taken: the characters that were read, and those that were given
-- back.
abbrev pub steps : Text → Text → Rewinds → ℕ
steps input rest b = position input rest + b.count

-- The furthest position that the cursor has reached: where it last went back, or where it is now if
-- that is further.
abbrev pub reach : Text → Text → Rewinds → ℕ
reach input rest b = max (position input rest) (length input - b.left)

-- The steps are at least the position, and at most the position and the furthest position together.
-- So they are at most two for each character of the input.
pub record AreFew (input rest : Text) (b : Rewinds) : Type 0 where
  pub least : position input rest ≤ steps input rest b
  pub bound : steps input rest b ≤ position input rest + reach input rest b
  pub twice : steps input rest b ≤ 2 * length input
