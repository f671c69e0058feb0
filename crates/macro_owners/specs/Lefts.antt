-- The left sides of arms.
use Prim.Native.Char.{code}
use Rattle.std.specs.Prelude.{◌≡◌, ◌+◌, ◌*◌, ◌<◌, ℕ, Bool, ◌&&◌, ◌||◌, IsTrue, List, codes}
use Rattle.rust_trees.specs.Leaves.{Leaf}
use Rattle.format_calls.specs.Marks.{is_mark}
use Rattle.macro_owners.specs.Words.{is_name, is_star, is_written}

-- The token i says that a variable takes one argument of a call.
abbrev pub is_kind : List Leaf → ℕ → Bool
is_kind xs i = is_written xs i (codes "expr") || (is_written xs i (codes "ident")
    || is_written xs i (codes "literal"))

-- The token i begins `$v:expr,`: one argument of a call, and the comma after it.
abbrev pub is_argument : List Leaf → ℕ → Bool
is_argument xs i = is_mark (code "$") xs i && (is_name xs (i + 1)
    && (is_mark (code ":") xs (i + 2) && (is_kind xs (i + 3) && is_mark (code ",") xs (i + 4))))

-- The token i begins `$($v:tt)*` or `$($v:tt)+`: all further tokens of a call.
abbrev pub is_rest : List Leaf → ℕ → Bool
is_rest xs i = is_mark (code "$") xs i && (is_mark (code "(") xs (i + 1)
    && (is_mark (code "$") xs (i + 2) && (is_name xs (i + 3) && (is_mark (code ":") xs (i + 4)
    && (is_written xs (i + 5) (codes "tt") && (is_mark (code ")") xs (i + 6)
    && is_star xs (i + 7)))))))

-- The tokens from one to the one before `to` are k arguments and all further tokens of a call.
pub record IsLeft (xs : List Leaf) (from k to : ℕ) : Type 0 where
  pub arguments : (n : ℕ) → n < k → IsTrue (is_argument xs (from + 5 * n))
  pub rest : IsTrue (is_rest xs (from + 5 * k))
  pub ends : from + 5 * k + 8 ≡ to
