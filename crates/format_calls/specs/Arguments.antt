-- The arguments of a call.
use Prim.Native.Char.{code}
use Rattle.std.specs.Prelude.{◌≡◌, ◌+◌, ◌<◌, ◌⊎◌, ◌&&◌, ℕ, Bool, true, false, not, List, [], ◌∷◌}
use Rattle.std.specs.Prelude.{◌-◌, IsTrue, drop, take}
use Rattle.std.specs.Prelude.{slice_get, Option, Some, None}
use Rattle.rust_trees.specs.Leaves.{Leaf}
use Rattle.rust_trees.specs.Forests.{IsPair}
use Rattle.format_calls.specs.declared.split.Argument.{Argument}
use Rattle.format_calls.specs.declared.modes.Mode.{Mode}
use Rattle.format_calls.specs.declared.modes.Mode.TheVariants.{Start, Within, Operator, Angles}
use Rattle.format_calls.specs.declared.modes.Mode.TheVariants.{Parameters}
use Rattle.format_calls.specs.Marks.{is_mark, is_word}
use Rattle.format_calls.specs.Modes.{is_followed, mode_after}

-- A tree stands from the token i to the one before j: a pair of delimiters with all between them,
-- or a token that opens none.
abbrev pub IsTree : List Leaf → ℕ → ℕ → Type 0
IsTree xs i j = ((n : ℕ) × IsPair xs i n × (j ≡ n + 1))
    ⊎ (((n : ℕ) → IsPair xs i n → ⊥) × (j ≡ i + 1))

-- A comma is no part of a list in angles or of parameters.
abbrev pub is_plain_mode : Mode → Bool
is_plain_mode (Start t) = true
is_plain_mode (Within t) = true
is_plain_mode Operator = true
is_plain_mode (Angles n) = false
is_plain_mode Parameters = false

-- The token i is a comma that ends an argument.
abbrev pub is_end : List Leaf → ℕ → Mode → Bool
is_end xs i m = is_plain_mode m && is_mark (code ",") xs i

-- From the token i, where m is read, there are trees up to these tokens, then k, where n is read.
-- No comma among them ends the argument.
abbrev pub Walks : List Leaf → ℕ → Mode → List ℕ → ℕ → Mode → Type 0
Walks xs i m [] k n = (i ≡ k) × (m ≡ n)
Walks xs i m (j ∷ js) k n = IsTree xs i j × (is_end xs i m ≡ false)
    × Walks xs j (mode_after xs i m) js k n

-- The tokens from one to the one before end are an argument: a comma ends it, or `to`, where its
-- list ends.
pub record IsArgument (xs : List Leaf) (from end to : ℕ) : Type 0 where
  pub trees : List ℕ
  pub mode : Mode
  pub walks : Walks xs from (Start false) trees end mode
  pub ends : IsTrue (is_end xs end mode) ⊎ (end ≡ to)

-- The word at the start has `=` after it, and that is neither `==` nor `=>`: it is the name.
abbrev pub is_word_at : Option Leaf → Bool
is_word_at None = false
is_word_at (Some x) = is_word x

abbrev pub is_named : List Leaf → ℕ → Bool
is_named xs i = is_word_at (slice_get xs i) && (is_mark (code "=") xs (i + 1)
    && (not (is_followed (code "=") xs (i + 1)) && not (is_followed (code ">") xs (i + 1))))

-- These are the arguments from one token to another: each begins after the comma of the one before
-- it, and the last ends there. After the last comma there may be nothing: that is no argument.
abbrev pub AreArguments : List Leaf → ℕ → List Argument → ℕ → Type 0
AreArguments xs at [] to = at ≡ to
AreArguments xs at (a ∷ more) to = (a.start ≡ at) × (at < to) × IsArgument xs at a.end to
    × (a.is_named ≡ is_named xs at)
    × (((a.end ≡ to) × (more ≡ [])) ⊎ (IsTrue (is_mark (code ",") xs a.end)
    × AreArguments xs (a.end + 1) more to))

-- The tokens of an argument.
abbrev pub tokens_of : List Leaf → Argument → List Leaf
tokens_of xs a = take (a.end - a.start) (drop a.start xs)
