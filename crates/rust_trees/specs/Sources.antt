-- The partners of the tokens of a file, and the place where they break.
use Rattle.std.specs.Prelude.{ℕ, List, Option}
use Rattle.rust_trees.specs.declared.matching.DelimiterBreak.{DelimiterBreak}
use Rattle.rust_trees.specs.Leaves.{Leaf}
use Rattle.rust_trees.specs.Breaks.{Breaks}
use Rattle.rust_trees.specs.Matching.{IsSound, IsComplete}

-- These are the partners of the tokens, and this is the place where they break.
pub record HasPairs (xs : List Leaf) (ps : List (Option ℕ))
    (b : Option DelimiterBreak) : Type 0 where
  pub is_sound : IsSound xs ps
  pub is_complete : IsComplete xs ps
  pub breaks : Breaks xs b
