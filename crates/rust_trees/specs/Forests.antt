-- Forests of tokens. The public rule is in the Rust Reference, macros:
-- DelimTokenTree : `(` TokenTree* `)` | `[` TokenTree* `]` | `{` TokenTree* `}`, and
-- TokenTree : Token except delimiters | DelimTokenTree.
use Rattle.std.specs.Prelude.{◌≡◌, ◌+◌, ◌<◌, ◌++◌, ◌⊎◌, ℕ, List, [], ◌∷◌, length}
use Rattle.rust_trees.specs.declared.sides.Delimiter.{Delimiter}
use Rattle.rust_trees.specs.declared.sides.Side.TheVariants.{Opens, Closes, Neither}
use Rattle.rust_trees.specs.Leaves.{Leaf, side}

-- Trees one after the other.
pub data Forest : Type 0 where
  Empty : Forest
  -- A token, and further trees.
  Token : Leaf → Forest → Forest
  -- A delimiter, the trees in it, the delimiter that closes it, and further trees.
  Pair : Leaf → Forest → Leaf → Forest → Forest

-- The tokens of a forest.
abbrev pub spelling : Forest → List Leaf
spelling Empty = []
spelling (Token x f) = x ∷ spelling f
spelling (Pair a f b g) = a ∷ (spelling f ++ b ∷ spelling g)

-- Two tokens open and close a pair of delimiters of one kind.
abbrev pub Pairs : Leaf → Leaf → Type 0
Pairs a b = (d : Delimiter) × (side a ≡ Opens d) × (side b ≡ Closes d)

-- A tree that is a token is no delimiter, and delimiters are of one kind.
abbrev pub IsWell : Forest → Type 0
IsWell Empty = Unit {0}
IsWell (Token x f) = (side x ≡ Neither) × IsWell f
IsWell (Pair a f b g) = Pairs a b × IsWell f × IsWell g

-- The tokens are a forest.
pub record IsForest (xs : List Leaf) : Type 0 where
  pub forest : Forest
  pub is_well : IsWell forest
  pub spells : spelling forest ≡ xs

-- The tokens from i to j are a delimiter, a forest and the delimiter that closes it.
pub record IsPair (xs : List Leaf) (i j : ℕ) : Type 0 where
  pub before : List Leaf
  pub opening : Leaf
  pub inside : List Leaf
  pub closing : Leaf
  pub after : List Leaf
  pub joins : xs ≡ before ++ opening ∷ (inside ++ closing ∷ after)
  pub starts : i ≡ length before
  pub ends : j ≡ i + (1 + length inside)
  pub pairs : Pairs opening closing
  pub is_forest : IsForest inside

-- Of a pair of delimiters i and j one is the other's partner.
abbrev pub ArePartners : List Leaf → ℕ → ℕ → Type 0
ArePartners xs i j = IsPair xs i j ⊎ IsPair xs j i

-- A closing delimiter is the last of these tokens, and a pair that begins among them ends among
-- them, whatever follows.
pub record IsGroup (xs : List Leaf) : Type 0 where
  pub front : List Leaf
  pub closing : Leaf
  pub delimiter : Delimiter
  pub joins : xs ≡ front ++ closing ∷ []
  pub closes : side closing ≡ Closes delimiter
  pub keeps : (ys : List Leaf) (i j : ℕ) → IsPair (xs ++ ys) i j → i < length xs → j < length xs
