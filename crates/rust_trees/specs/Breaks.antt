-- The place where tokens that are no forest break.
use Rattle.std.specs.Prelude.{◌≡◌, ◌++◌, ℕ, List, [], ◌∷◌, length, Option, Some, None}
use Rattle.rust_trees.specs.declared.sides.Delimiter.{Delimiter}
use Rattle.rust_trees.specs.declared.sides.Side.TheVariants.{Opens}
use Rattle.rust_trees.specs.declared.matching.DelimiterBreak.{DelimiterBreak}
use Rattle.rust_trees.specs.declared.matching.DelimiterBreak.TheVariants.{Unclosed, Unexpected}
use Rattle.rust_trees.specs.Leaves.{Leaf, side}
use Rattle.rust_trees.specs.Forests.{IsForest}

-- Some tokens can follow these so that all are a forest.
abbrev pub IsFront : List Leaf → Type 0
IsFront xs = (ys : List Leaf) × IsForest (xs ++ ys)

-- The token k is a closing delimiter that nothing allows there: those before it are the front of a
-- forest, and with it they are no longer one.
pub record IsUnexpected (xs : List Leaf) (k : ℕ) : Type 0 where
  pub before : List Leaf
  pub closing : Leaf
  pub after : List Leaf
  pub joins : xs ≡ before ++ closing ∷ after
  pub place : k ≡ length before
  pub is_front : IsFront before
  pub breaks : IsFront (before ++ closing ∷ []) → ⊥

-- The token k is the last delimiter that is not closed: all tokens are the front of a forest, and
-- those after it are a forest.
pub record IsUnclosed (xs : List Leaf) (k : ℕ) : Type 0 where
  pub before : List Leaf
  pub opening : Leaf
  pub after : List Leaf
  pub delimiter : Delimiter
  pub joins : xs ≡ before ++ opening ∷ after
  pub place : k ≡ length before
  pub opens : side opening ≡ Opens delimiter
  pub is_front : IsFront xs
  pub is_forest : IsForest after

-- The tokens are a forest, or they break there.
abbrev pub Breaks : List Leaf → Option DelimiterBreak → Type 0
Breaks xs None = IsForest xs
Breaks xs (Some (Unexpected k)) = IsUnexpected xs k
Breaks xs (Some (Unclosed k)) = IsUnclosed xs k
