-- The right sides of arms.
use Rattle.std.specs.Prelude.{◌≡◌, ◌+◌, ◌<◌, ◌≤◌, ℕ, IsFalse, IsTrue, List, Contains, Option, codes}
use Rattle.std.specs.Prelude.{slice_get}
use Rattle.rust_trees.specs.Leaves.{Leaf}
use Rattle.format_calls.specs.declared.listing.Call.{Call}
use Rattle.format_calls.specs.declared.table.Rule.{Rule}
use Rattle.macro_owners.specs.declared.rights.Right.{Right}
use Rattle.macro_owners.specs.Words.{is_copy, is_use, is_written}

-- The name of the variable that takes all further tokens.
abbrev pub variable_of : List Leaf → Right → Option Leaf
variable_of xs t = slice_get xs t.variable

-- The use at the token i of a variable hands on all tokens that it takes, and these alone, to a
-- call, of these, of a macro of the rule r: it is a part of `name!($($v)*)`.
pub record IsHanded (cs : List Call) (xs : List Leaf) (t : Right) (i : ℕ) (r : Rule) : Type 0 where
  pub call : Call
  pub is_known : Contains cs call
  pub rule : call.rule ≡ r
  pub starts : t.start ≤ call.name
  pub ends : call.close < t.end
  pub place : i ≡ call.name + 5
  pub length : call.close ≡ call.name + 9
  pub copies : IsTrue (is_copy xs (variable_of xs t) (call.name + 3))

-- The right side uses the variable, and each use hands on to a macro of the rule r. It defines no
-- macro.
pub record HandsOn (cs : List Call) (xs : List Leaf) (t : Right) (r : Rule) : Type 0 where
  pub use_index : ℕ
  pub starts : t.start ≤ use_index
  pub ends : use_index < t.end
  pub is_used : IsTrue (is_use xs (variable_of xs t) use_index)
  pub each : (i : ℕ) → t.start ≤ i → i < t.end → IsTrue (is_use xs (variable_of xs t) i)
      → IsHanded cs xs t i r
  pub plain : (i : ℕ) → t.start ≤ i → i < t.end
      → IsFalse (is_written xs i (codes "macro_rules"))
