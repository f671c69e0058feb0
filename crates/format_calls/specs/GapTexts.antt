-- The texts between the parts of a file that have calls.
use Rattle.std.specs.Prelude.{◌≡◌, ◌++◌, ℕ, List, [], ◌∷◌, IsTrue, Option, chars, flat_map, map}
use Rattle.rust_tokens.specs.Tokens.{Lexeme, Reads}
use Rattle.rust_trees.specs.Balances.{AreEnded}
use Rattle.rust_trees.specs.Forests.{IsForest}
use Rattle.rust_trees.specs.Leaves.{Leaf, leaves}
use Rattle.rust_trees.specs.Scans.{scan}
use Rattle.rust_trees.specs.declared.sides.Delimiter.{Delimiter}
use Rattle.format_calls.specs.Gaps.{IsGapText, LacksFronts}
use Rattle.format_calls.specs.Parts.{Window}
use Rattle.format_calls.specs.Rows.{Entry}
use Rattle.format_calls.specs.declared.gap_texts.Gaps.{Gaps}

-- The texts before the parts, in bytes.
abbrev pub texts : Gaps → List (List ℕ)
texts g = map (λ t. t.now) g.fronts.items

-- Before each word each text reads as these tokens, and they begin no call.
abbrev pub AreGapTexts : List Entry → List (List ℕ) → List (List Lexeme) → Type 0
AreGapTexts es [] xss = xss ≡ []
AreGapTexts es (g ∷ gs) xss = (xs : List Lexeme) × (yss : List (List Lexeme)) × (xss ≡ xs ∷ yss)
    × IsGapText es g xs × AreGapTexts es gs yss

-- The tokens of all texts, one after the other.
abbrev pub leaves_of_all : List (List Lexeme) → List Leaf
leaves_of_all xss = flat_map (λ xs. leaves 0 xs) xss

-- These are the texts before the parts among these tokens; without the parts the same delimiters
-- are open after them.
pub record GapsBefore (es : List Entry) (gs : List (List ℕ)) (front : List Leaf) : Type 0 where
  pub tokens : List (List Lexeme)
  pub are_texts : AreGapTexts es gs tokens
  pub scanned : (o : Option (List Delimiter)) → scan o front ≡ scan o (leaves_of_all tokens)

-- What is known of the gaps of these tokens, if they have their ends.
abbrev pub AreKnown : List Entry → Gaps → List Leaf → Type 0
AreKnown es g front = IsTrue g.are_known → AreEnded front → GapsBefore es (texts g) front

-- The text is the rest of a file, and reads as these tokens, which have their ends and begin no
-- call.
pub record IsLastText (es : List Entry) (last : List ℕ) (xs : List Lexeme) : Type 0 where
  pub reads : Reads (chars last) xs
  pub are_ended : AreEnded (leaves 0 xs)
  pub window : Window
  pub lacks : LacksFronts es (leaves 0 xs) window

-- Where parts that are forests stand between these texts and the last one, all is a forest.
pub record AreGaps (es : List Entry) (gs : List (List ℕ)) (last : List ℕ) : Type 0 where
  pub tokens : List (List Lexeme)
  pub are_texts : AreGapTexts es gs tokens
  pub rest : List Lexeme
  pub is_last : IsLastText es last rest
  pub is_forest : IsForest (leaves_of_all tokens ++ leaves 0 rest)
