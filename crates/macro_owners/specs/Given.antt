-- The names that a file gives to macros.
use Prim.Native.Char.{code}
use Rattle.std.specs.Prelude.{◌≡◌, ◌+◌, ◌-◌, ◌==◌, ◌<◌, ◌≤◌, ◌&&◌, ◌||◌, not, ℕ, zero, suc, Bool}
use Rattle.std.specs.Prelude.{false, IsTrue, IsFalse, IfSome, List, [], ◌∷◌, Option}
use Rattle.std.specs.Prelude.{◌↔◌, Some, None, Contains, codes, nat_lt, if◌then◌else◌}
use Rattle.rust_trees.specs.Leaves.{Leaf}
use Rattle.rust_trees.specs.Forests.{IsPair}
use Rattle.format_calls.specs.declared.listing.Call.{Call}
use Rattle.format_calls.specs.declared.table.Rule.{Rule}
use Rattle.format_calls.specs.Marks.{is_mark}
use Rattle.format_calls.specs.Calls.{IsCall}
use Rattle.format_calls.specs.Rows.{Entry}
use Rattle.macro_owners.specs.declared.given.Given.{Given}
use Rattle.macro_owners.specs.Arms.{Says}
use Rattle.macro_owners.specs.Words.{is_name, is_written}

-- `macro_rules!` and a name start at the token i.
abbrev pub is_definition : List Leaf → ℕ → Bool
is_definition xs i = is_written xs i (codes "macro_rules") && (is_mark (code "!") xs (i + 1)
    && is_name xs (i + 2))

-- The token i begins a path of the package.
abbrev pub is_own_root : List Leaf → ℕ → Bool
is_own_root xs i = is_written xs i (codes "crate") || (is_written xs i (codes "self")
    || is_written xs i (codes "super"))

-- The word at i is what an import from the path that begins at the token r gives a name, and that
-- is not known to be a path of the package. It is 0 where there is no import.
abbrev pub is_imported : List Leaf → ℕ → ℕ → Bool
is_imported xs r i = nat_lt 0 r && ((is_mark (code ",") xs (i + 1) || (is_mark (code ";") xs (i + 1)
    || is_mark (code "}") xs (i + 1))) && (is_written xs (i - 1) (codes "as")
    || (not (r == i) && not (is_own_root xs r))))

-- The word at i is the name of a macro that is called by a path, of which the last word before it
-- is not known to be the package.
abbrev pub is_called_by_path : List Leaf → ℕ → Bool
is_called_by_path xs i = is_mark (code "!") xs (i + 1) && (is_mark (code ":") xs (i - 1)
    && not (is_own_root xs (i - 3)))

-- The token i is a name that may be that of a macro which `macro_rules!` does not define here.
abbrev pub is_foreign : List Leaf → ℕ → ℕ → Bool
is_foreign xs r i = is_name xs i && ((nat_lt 0 i && is_written xs (i - 1) (codes "macro"))
    || (is_imported xs r i || is_called_by_path xs i))

-- The token that begins the path of the import which goes on after the token i, or 0.
abbrev pub root_after : List Leaf → ℕ → ℕ → ℕ
root_after xs i r = if is_written xs i (codes "use") then i + 1 else
    (if is_mark (code ";") xs i then 0 else r)

abbrev pub root_before : List Leaf → ℕ → ℕ
root_before xs zero = 0
root_before xs (suc i) = root_after xs i (root_before xs i)

-- `cfg` or `cfg_attr` was read in the item that goes on after the token i.
abbrev pub conditional_after : List Leaf → ℕ → Bool → Bool
conditional_after xs i b = is_written xs i (codes "cfg") || (is_written xs i (codes "cfg_attr")
    || (b && not (is_mark (code ";") xs i || (is_mark (code "{") xs i || is_mark (code "}") xs i))))

abbrev pub is_conditional : List Leaf → ℕ → Bool
is_conditional xs zero = false
is_conditional xs (suc i) = conditional_after xs i (is_conditional xs i)

-- The index of the name that the token i gives to a macro: by a definition, or from elsewhere.
abbrev pub given_name : List Leaf → ℕ → Option ℕ
given_name xs i = if is_definition xs i then Some (i + 2) else
    (if is_foreign xs (root_before xs i) i then Some i else None)

-- The definition that starts at the token i has no condition, and its arms say that the format
-- string is that of the rule r.
pub record IsDefinedAs (cs : List Call) (xs : List Leaf) (i : ℕ) (r : Rule) : Type 0 where
  pub close : ℕ
  pub is_definition : IsTrue (is_definition xs i)
  pub is_unconditional : IsFalse (is_conditional xs i)
  pub is_pair : IsPair xs (i + 3) close
  pub says : Says cs xs (i + 3) close r

-- The tokens from i on give these names, one after the other.
abbrev pub AreGiven : List Call → List Leaf → ℕ → List Given → Type 0
AreGiven cs xs i [] = (j : ℕ) → i ≤ j → given_name xs j ≡ None
AreGiven cs xs i (g ∷ gs) = (k : ℕ) × (i ≤ k) × ((j : ℕ) → i ≤ j → j < k → given_name xs j ≡ None)
    × (given_name xs k ≡ Some g.name) × IfSome g.rule (IsDefinedAs cs xs k)
    × AreGiven cs xs (k + 1) gs

-- A file gives these names, where these are the known macros.
pub record Gives (es : List Entry) (xs : List Leaf) (gs : List Given) : Type 0 where
  pub calls : List Call
  pub are_calls : (c : Call) → Contains calls c ↔ IsCall es xs c
  pub are_given : AreGiven calls xs 0 gs
