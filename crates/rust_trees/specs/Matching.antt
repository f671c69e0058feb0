-- The pairs of delimiters while tokens are read from left to right.
use Rattle.std.specs.Prelude.{◌≡◌, ◌++◌, ℕ, List, [], ◌∷◌, Option, Some, None, length, map}
use Rattle.std.specs.Prelude.{reverse, slice_index_or}
use Rattle.rust_trees.specs.declared.sides.Delimiter.{Delimiter}
use Rattle.rust_trees.specs.declared.sides.Side.TheVariants.{Opens}
use Rattle.rust_trees.specs.declared.matching.Opening.{Opening}
use Rattle.rust_trees.specs.declared.matching.Matching.{Matching}
use Rattle.rust_trees.specs.Leaves.{Leaf, side}
use Rattle.rust_trees.specs.Forests.{ArePartners, IsPair}
use Rattle.rust_trees.specs.Breaks.{IsUnexpected}
use Rattle.rust_trees.specs.Scans.{scan}

-- No token to come has its partner among these: after each opening one they break.
abbrev pub Sealed : List Leaf → Type 0
Sealed w = (u v : List Leaf) (a : Leaf) (d : Delimiter) → w ≡ u ++ a ∷ v → side a ≡ Opens d
    → scan (Some []) v ≡ None

-- These openings may still be closed, the last one first: after each there is a forest, and then
-- the next.
abbrev pub Alive : List Opening → List Leaf → Type 0
Alive [] w = Sealed w
Alive (o ∷ os) w = (u v : List Leaf) × (a : Leaf) × (w ≡ u ++ a ∷ v) × (o.position ≡ length u)
    × (side a ≡ Opens o.delimiter) × (scan (Some []) v ≡ Some []) × Alive os u

-- The partner of the token i.
abbrev pub partner : List (Option ℕ) → ℕ → Option ℕ
partner ps i = slice_index_or ps i None

-- Each partner that was noted is one.
abbrev pub IsSound : List Leaf → List (Option ℕ) → Type 0
IsSound w ps = (i j : ℕ) → partner ps i ≡ Some j → ArePartners w i j

-- Each pair was noted.
abbrev pub IsComplete : List Leaf → List (Option ℕ) → Type 0
IsComplete w ps = (i j : ℕ) → IsPair w i j → (partner ps i ≡ Some j) × (partner ps j ≡ Some i)

-- The first token that breaks was noted, or nothing breaks and these are open.
abbrev pub IsFirst : List Leaf → List Opening → Option ℕ → Type 0
IsFirst w os None = scan (Some []) w ≡ Some (map (λ o. o.delimiter) os)
IsFirst w os (Some k) = IsUnexpected w k

-- These openings, the last one at the end, may still be closed, and the first token that breaks is
-- the one that was noted.
pub record HasOpen (w : List Leaf) (os : List Opening) (u : Option ℕ) : Type 0 where
  pub alive : Alive (reverse os) w
  pub is_first : IsFirst w (reverse os) u

-- These are the pairs of the tokens so far.
pub record IsMatched (w : List Leaf) (m : Matching) : Type 0 where
  pub counted : length m.partners.items ≡ length w
  pub is_sound : IsSound w m.partners.items
  pub is_complete : IsComplete w m.partners.items
  pub has_open : HasOpen w m.openings.items m.unexpected_index
