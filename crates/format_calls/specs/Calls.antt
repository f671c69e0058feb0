-- Calls of the macros of a table.
use Prim.Native.Char.{code}
use Rattle.std.specs.Prelude.{◌≡◌, ◌+◌, ◌≤◌, ℕ, List, [], ◌∷◌, Option, Some}
use Rattle.std.specs.Prelude.{None, IsTrue, IsFalse, slice_get, if◌then◌else◌}
use Rattle.rust_trees.specs.Leaves.{Leaf}
use Rattle.rust_trees.specs.Forests.{IsPair}
use Rattle.format_calls.specs.declared.table.Rule.{Rule}
use Rattle.format_calls.specs.declared.listing.Call.{Call}
use Rattle.format_calls.specs.Rows.{Entry, rule_of}
use Rattle.format_calls.specs.Marks.{is_after, is_mark, is_word, word}

-- The rule of a token that is a word of the table.
abbrev pub rule_of_leaf : List Entry → Option Leaf → Option Rule
rule_of_leaf es None = None
rule_of_leaf es (Some x) = if is_word x then rule_of es (word x) else None

-- A call stands there: a word or raw word of the table, `!` and a pair of delimiters. A word after
-- `$` is the name of a macro variable.
pub record IsCall (es : List Entry) (xs : List Leaf) (c : Call) : Type 0 where
  pub is_listed : rule_of_leaf es (slice_get xs c.name) ≡ Some c.rule
  pub is_macro : IsTrue (is_mark (code "!") xs (c.name + 1))
  pub is_pair : IsPair xs (c.name + 2) c.close
  pub is_fixed : IsFalse (is_after (code "$") xs c.name)

-- The names of the calls stand one after the other between these two tokens.
abbrev pub Rises : ℕ → List Call → ℕ → Type 0
Rises from [] to = from ≤ to
Rises from (c ∷ cs) to = (from ≤ c.name) × Rises (c.name + 1) cs to
