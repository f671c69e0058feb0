-- The tokens of a file.
use Rattle.std.specs.Prelude.{◌≡◌, ℕ, List, chars}
use Rattle.rust_tokens.specs.Files.{ReadsFile}
use Rattle.rust_tokens.specs.Tokens.{Lexeme}
use Rattle.rust_trees.specs.Leaves.{Leaf, leaves}

-- These are the tokens of a file, in bytes, without white space and comments.
abbrev pub AreLeaves : List ℕ → List Leaf → Type 0
AreLeaves bs ls = (xs : List Lexeme) × ReadsFile (chars bs) xs × (ls ≡ leaves 0 xs)
