-- Whether the tokens of a file are a forest, and where they break if they are none.
use Rattle.std.specs.Prelude.{◌≡◌, ◌++◌, ℕ, List, [], ◌∷◌, Option, Some, None, IsTrue, IsFalse, map}
use Rattle.std.specs.Prelude.{reverse, slice_get}
use Rattle.std.specs.List.{list_all}
use Rattle.rust_trees.specs.declared.balance.FileBreak.{FileBreak}
use Rattle.rust_trees.specs.declared.balance.BreakKind.{BreakKind}
use Rattle.rust_trees.specs.declared.balance.BreakKind.TheVariants.{UnclosedDelimiter}
use Rattle.rust_trees.specs.declared.balance.BreakKind.TheVariants.{UnexpectedDelimiter}
use Rattle.rust_trees.specs.declared.balance.BreakKind.TheVariants.{UnterminatedToken}
use Rattle.rust_trees.specs.declared.balance.Balance.{Balance}
use Rattle.rust_trees.specs.declared.matching.Opening.{Opening}
use Rattle.rust_trees.specs.declared.sides.Delimiter.{Delimiter}
use Rattle.rust_trees.specs.declared.sides.Side.TheVariants.{Opens}
use Rattle.rust_trees.specs.Breaks.{IsFront, IsUnclosed, IsUnexpected}
use Rattle.rust_trees.specs.Forests.{IsForest}
use Rattle.rust_trees.specs.Leaves.{Leaf, side}
use Rattle.rust_trees.specs.Scans.{scan}

-- All these tokens have their ends.
abbrev pub AreEnded : List Leaf → Type 0
AreEnded xs = IsTrue (list_all (λ x. x.is_ended) xs)

-- The token that starts there lacks its end: those before it have theirs, and are the front of a
-- forest.
pub record IsUnended (xs : List Leaf) (start : ℕ) : Type 0 where
  pub before : List Leaf
  pub token : Leaf
  pub after : List Leaf
  pub joins : xs ≡ before ++ token ∷ after
  pub lacks : IsFalse token.is_ended
  pub are_ended : AreEnded before
  pub is_front : IsFront before
  pub place : start ≡ token.start

-- The token that starts there is a closing delimiter that nothing allows: those before it have
-- their ends, and are the front of a forest, and with it they are no longer one.
pub record IsUnexpectedAt (xs : List Leaf) (start : ℕ) : Type 0 where
  pub before : List Leaf
  pub closing : Leaf
  pub after : List Leaf
  pub joins : xs ≡ before ++ closing ∷ after
  pub are_ended : AreEnded before
  pub is_front : IsFront before
  pub breaks : IsFront (before ++ closing ∷ []) → ⊥
  pub place : start ≡ closing.start

-- The token that starts there is the last delimiter that is not closed: all tokens have their ends
-- and are the front of a forest, and those after it are a forest.
pub record IsUnclosedAt (xs : List Leaf) (start : ℕ) : Type 0 where
  pub before : List Leaf
  pub opening : Leaf
  pub after : List Leaf
  pub delimiter : Delimiter
  pub joins : xs ≡ before ++ opening ∷ after
  pub opens : side opening ≡ Opens delimiter
  pub are_ended : AreEnded xs
  pub is_front : IsFront xs
  pub is_forest : IsForest after
  pub place : start ≡ opening.start

abbrev pub BreaksIn : List Leaf → BreakKind → ℕ → Type 0
BreaksIn xs UnclosedDelimiter n = IsUnclosedAt xs n
BreaksIn xs UnexpectedDelimiter n = IsUnexpectedAt xs n
BreaksIn xs UnterminatedToken n = IsUnended xs n

-- The tokens of a file break there; or they are a forest, and have their ends.
abbrev pub BreaksAt : List Leaf → Option FileBreak → Type 0
BreaksAt xs None = IsForest xs × AreEnded xs
BreaksAt xs (Some b) = BreaksIn xs b.kind b.start

-- These openings may still be closed, the last one first: after each there is a forest, and then
-- the next.
abbrev pub AreOpen : List Opening → List Leaf → Type 0
AreOpen [] w = Unit {0}
AreOpen (o ∷ os) w = (u v : List Leaf) × (a : Leaf) × (w ≡ u ++ a ∷ v) × (o.position ≡ a.start)
    × (side a ≡ Opens o.delimiter) × (scan (Some []) v ≡ Some []) × AreOpen os u

-- The tokens so far, which do not break yet, and the delimiters that are open.
pub record GoesOn (w : List Leaf) (os : List Opening) : Type 0 where
  pub are_ended : AreEnded w
  pub scanned : scan (Some []) w ≡ Some (map (λ o. o.delimiter) (reverse os))
  pub are_open : AreOpen (reverse os) w

-- The knowledge of the tokens so far: they break, for good, or these delimiters are open.
abbrev pub IsKnownTo : List Leaf → List Opening → Option FileBreak → Type 0
IsKnownTo w os None = GoesOn w os
IsKnownTo w os (Some b) = (ys : List Leaf) → BreaksIn (w ++ ys) b.kind b.start

abbrev pub IsBalanced : List Leaf → Balance → Type 0
IsBalanced w b = IsKnownTo w b.openings.items b.first_break
