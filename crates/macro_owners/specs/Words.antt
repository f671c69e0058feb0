-- Tokens by their index, as words, and the variables of a macro.
use Prim.Native.Char.{code}
use Rattle.std.specs.Prelude.{ℕ, Bool, false, ◌&&◌, ◌||◌, ◌+◌, List, Option, Some, None, slice_get}
use Rattle.std.specs.Str.{bytes_eq}
use Rattle.rust_trees.specs.Leaves.{Leaf}
use Rattle.format_calls.specs.Marks.{is_mark, is_word, word}
use Rattle.format_calls.specs.Modes.{is_text}

abbrev pub is_written_of : Option Leaf → List ℕ → Bool
is_written_of None w = false
is_written_of (Some x) w = is_text x w

-- The token i is this word, not a raw one.
abbrev pub is_written : List Leaf → ℕ → List ℕ → Bool
is_written xs i w = is_written_of (slice_get xs i) w

abbrev pub is_name_of : Option Leaf → Bool
is_name_of None = false
is_name_of (Some x) = is_word x

-- The token i is a word.
abbrev pub is_name : List Leaf → ℕ → Bool
is_name xs i = is_name_of (slice_get xs i)

-- These two tokens are the same word.
abbrev pub is_same_word : Option Leaf → Option Leaf → Bool
is_same_word None v = false
is_same_word (Some x) None = false
is_same_word (Some x) (Some y) = is_word x && (is_word y && bytes_eq (word x) (word y))

-- The token i begins a use of the variable v of a macro: `$v`.
abbrev pub is_use : List Leaf → Option Leaf → ℕ → Bool
is_use xs v i = is_mark (code "$") xs i && is_same_word (slice_get xs (i + 1)) v

-- The token i is `*` or `+`.
abbrev pub is_star : List Leaf → ℕ → Bool
is_star xs i = is_mark (code "*") xs i || is_mark (code "+") xs i

-- The token i begins `$($v)*` or `$($v)+`.
abbrev pub is_copy : List Leaf → Option Leaf → ℕ → Bool
is_copy xs v i = is_mark (code "$") xs i && (is_mark (code "(") xs (i + 1)
    && (is_use xs v (i + 2) && (is_mark (code ")") xs (i + 4) && is_star xs (i + 5))))
