-- The macros that a file defines, and of which the file shows that all its calls of this name are
-- theirs.
use Prim.Native.Char.{code}
use Rattle.std.specs.Prelude.{◌≡◌, ◌+◌, ◌-◌, ◌<◌, ◌&&◌, ◌||◌, ℕ, Bool, IsTrue, IsFalse}
use Rattle.std.specs.Prelude.{List, Some, Contains, codes, is_some, nat_lt, not, slice_get}
use Rattle.std.specs.Str.{bytes_eq}
use Rattle.rust_trees.specs.Leaves.{Leaf}
use Rattle.rust_trees.specs.Forests.{IsPair}
use Rattle.format_calls.specs.declared.listing.Call.{Call}
use Rattle.format_calls.specs.declared.table.Rule.{Rule}
use Rattle.format_calls.specs.Calls.{IsCall}
use Rattle.format_calls.specs.Marks.{is_mark, word}
use Rattle.format_calls.specs.Rows.{Entry, rule_of}
use Rattle.format_calls.specs.Standard.{standard}
use Rattle.macro_owners.specs.Given.{IsDefinedAs, given_name, is_definition}
use Rattle.macro_owners.specs.Words.{is_same_word, is_written}

-- The tokens i and j are the same word.
abbrev pub is_same : List Leaf → ℕ → ℕ → Bool
is_same xs i j = is_same_word (slice_get xs i) (slice_get xs j)

-- The token i begins a call of a macro that has the word n as its name.
abbrev pub is_call_of : List Leaf → ℕ → ℕ → Bool
is_call_of xs n i = is_mark (code "!") xs (i + 1) && is_same xs i n

-- The token i is the name of a crate whose macros are known.
abbrev pub is_owner : List Leaf → ℕ → Bool
is_owner xs i = is_written xs i (codes "std") || (is_written xs i (codes "core")
    || (is_written xs i (codes "alloc") || (is_written xs i (codes "log")
    || (is_written xs i (codes "tracing") || (is_written xs i (codes "slog")
    || (is_written xs i (codes "anyhow") || is_written xs i (codes "eyre")))))))

-- The call whose name is the token i is of a known macro: no path stands before the name, or one
-- of a crate whose macros are known, and the file defines no macro of this name.
pub record IsKnown (xs : List Leaf) (i : ℕ) : Type 0 where
  pub path : IsTrue (is_mark (code ":") xs (i - 1)) → IsTrue (is_owner xs (i - 3))
  pub is_undefined : (k : ℕ) → IsTrue (is_definition xs k) → IsFalse (is_same xs (k + 2) i)

-- The token i may give a name another macro after its definition, whose name is the token n: a
-- module or a crate gives its macros there, or a macro is defined whose name a variable is.
abbrev pub hides : List Leaf → ℕ → ℕ → Bool
hides xs n i = (nat_lt n i && is_written xs i (codes "macro_use"))
    || (is_written xs i (codes "macro_rules") && is_mark (code "$") xs (i + 2))

-- The token i stands after the token n, and in all delimiters around it.
pub record IsInSight (xs : List Leaf) (n i : ℕ) : Type 0 where
  pub follows : n < i
  pub is_inside : (a b : ℕ) → IsPair xs a b → a < n → n < b → i < b

-- The token n is the name of a macro that the file defines, of which these are the known calls.
-- Its arms say that the format string is that of the rule r. Each call of the file that has its
-- name is a call of it: nothing else gives the name to a macro, and each call is where the
-- definition is in sight.
pub record IsOwn (cs : List Call) (xs : List Leaf) (n : ℕ) (r : Rule) : Type 0 where
  pub start : ℕ
  pub is_name : n ≡ start + 2
  pub is_defined : IsDefinedAs cs xs start r
  pub are_known : (c : Call) → Contains cs c → start + 3 < c.name → c.name < is_defined.close
      → IsKnown xs c.name
  pub is_alone : (i j : ℕ) → given_name xs i ≡ Some j → IsTrue (is_same xs j n) → j ≡ n
  pub calls : (i : ℕ) → IsTrue (is_call_of xs n i) → IsInSight xs n i
  pub is_shown : (i : ℕ) → IsFalse (hides xs n i)

-- The word is no raw one, and is no name of a macro of std with a format string.
abbrev pub is_plain : Leaf → Bool
is_plain x = bytes_eq x.text (word x) && not (is_some (rule_of standard (word x)))

-- The file defines a macro of this name, whose calls are read by this rule, where these are the
-- known macros.
pub record HasOwn (es : List Entry) (xs : List Leaf) (e : Entry) : Type 0 where
  pub calls : List Call
  pub are_calls : (c : Call) → Contains calls c → IsCall es xs c
  pub index : ℕ
  pub is_own : IsOwn calls xs index e.rule
  pub name : Leaf
  pub is_token : slice_get xs index ≡ Some name
  pub is_plain : IsTrue (is_plain name)
  pub is_text : name.text ≡ e.name
