-- Where arguments end, and whether their number is known.
use Prim.Native.Char.{code}
use Rattle.std.specs.Prelude.{◌≡◌, ◌≤◌, ◌+◌, ◌⊎◌, ◌&&◌, ◌||◌, not, ℕ, Bool, false, List, [], ◌∷◌}
use Rattle.std.specs.Prelude.{IsTrue, Option, Some, None, slice_get, if◌then◌else◌}
use Rattle.std.specs.List.{list_any}
use Rattle.rust_trees.specs.Leaves.{Leaf, side}
use Rattle.rust_trees.specs.Sides.{is_opening}
use Rattle.format_calls.specs.Arguments.{IsTree, is_named}
use Rattle.format_calls.specs.Marks.{is_mark}

-- From one token to another there are trees, which start at these tokens.
abbrev pub AreTrees : List Leaf → ℕ → List ℕ → ℕ → Type 0
AreTrees xs from [] to = from ≡ to
AreTrees xs from (t ∷ ts) to = (t ≡ from) × (next : ℕ) × IsTree xs from next
    × AreTrees xs next ts to

abbrev pub opens : Option Leaf → Bool
opens None = false
opens (Some x) = is_opening (side x)

-- The token i opens a pair.
abbrev pub opens_at : List Leaf → ℕ → Bool
opens_at xs i = opens (slice_get xs i)

-- The number of arguments is not known where one of them begins at this token or goes on with it: a
-- macro repeats some of them, as `$(..)*` does and `#x` in `quote!`, or names one, as `$name = x`
-- does, or `;` begins something else.
abbrev pub is_uncounted : List Leaf → ℕ → Bool
is_uncounted xs i = if is_mark (code "$") xs i then opens_at xs (i + 1) || is_named xs (i + 1) else
    (if is_mark (code "#") xs i
    then not (is_mark (code "[") xs (i + 1)) && not (is_mark (code "!") xs (i + 1))
    else is_mark (code ";") xs i)

-- The token i ends arguments: it is `;`, and b says that one does.
abbrev pub is_stop : Bool → List Leaf → ℕ → Bool
is_stop b xs i = b && is_mark (code ";") xs i

-- Arguments that start at the token `from`, whose trees start at these tokens, end at a token:
-- where their list does, or before that at the first of their trees that ends them.
pub record AreUpTo (b : Bool) (xs : List Leaf) (from : ℕ) (ts : List ℕ) (end close : ℕ)
    : Type 0 where
  pub are_trees : AreTrees xs from ts end
  pub go_on : list_any (is_stop b xs) ts ≡ false
  pub within : end ≤ close
  pub ends : (end ≡ close) ⊎ IsTrue (is_stop b xs end)
