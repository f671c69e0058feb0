-- Tokens read from left to right, with the delimiters that are open.
use Rattle.std.specs.Prelude.{List, [], ◌∷◌, Option, Some, None, if◌then◌else◌}
use Rattle.rust_trees.specs.declared.sides.Delimiter.{Delimiter}
use Rattle.rust_trees.specs.declared.sides.Side.{Side}
use Rattle.rust_trees.specs.declared.sides.Side.TheVariants.{Opens, Closes, Neither}
use Rattle.rust_trees.specs.Leaves.{Leaf, side}
use Rattle.rust_trees.specs.Sides.{is_same}

-- The delimiters that are open after a token, the last of them first. None if the token closes none
-- of them, or if there were none of these.
abbrev pub open_after : Side → Option (List Delimiter) → Option (List Delimiter)
open_after s None = None
open_after Neither (Some ds) = Some ds
open_after (Opens d) (Some ds) = Some (d ∷ ds)
open_after (Closes d) (Some []) = None
open_after (Closes d) (Some (e ∷ ds)) = if is_same e d then Some ds else None

-- The delimiters that are open after these tokens.
abbrev pub scan : Option (List Delimiter) → List Leaf → Option (List Delimiter)
scan o [] = o
scan o (x ∷ xs) = scan (open_after (side x) o) xs
