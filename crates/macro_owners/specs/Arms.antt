-- The arms of a definition, and what they say of the argument that is a format string.
use Prim.Native.Char.{code}
use Rattle.std.specs.Prelude.{◌≡◌, ◌+◌, ◌-◌, ◌^◌, ◌⊎◌, ℕ, zero, suc, IsTrue, List, [], ◌∷◌}
use Rattle.std.specs.Prelude.{Option, Some, None, Contains, if◌then◌else◌, nat_lt}
use Rattle.rust_trees.specs.Leaves.{Leaf}
use Rattle.rust_trees.specs.Forests.{IsPair}
use Rattle.format_calls.specs.declared.listing.Call.{Call}
use Rattle.format_calls.specs.declared.table.Rule.{Rule}
use Rattle.format_calls.specs.declared.table.Rule.TheVariants.{Index, IndexByEdition, FirstLiteral}
use Rattle.format_calls.specs.declared.table.Rule.TheVariants.{Templates}
use Rattle.format_calls.specs.Marks.{is_mark}
use Rattle.macro_owners.specs.declared.arms.Arm.{Arm}
use Rattle.macro_owners.specs.declared.rights.Right.{Right}
use Rattle.macro_owners.specs.Lefts.{IsLeft}
use Rattle.macro_owners.specs.Rights.{HandsOn}

-- An arm starts at the token i: two pairs of delimiters with `=>` between them.
pub record IsArm (xs : List Leaf) (i : ℕ) (a : Arm) : Type 0 where
  pub starts : a.left_opening ≡ i
  pub left : IsPair xs i a.left_close
  pub equals : IsTrue (is_mark (code "=") xs (a.left_close + 1))
  pub arrow : IsTrue (is_mark (code ">") xs (a.left_close + 2))
  pub right : IsPair xs (a.left_close + 3) a.right_close

-- From one token to another there are these arms, with `;` between them and maybe at the end.
abbrev pub AreArms : List Leaf → ℕ → List Arm → ℕ → Type 0
AreArms xs from [] to = from ≡ to
AreArms xs from (a ∷ more) to = IsArm xs from a
    × (((a.right_close + 1 ≡ to) × (more ≡ []))
    ⊎ (IsTrue (is_mark (code ";") xs (a.right_close + 1)) × AreArms xs (a.right_close + 2) more to))

-- The index, if it is a number of the machine.
abbrev pub index_or : (ℕ → Rule) → ℕ → Option Rule
index_or f n = if nat_lt n (2 ^ 64) then Some (f n) else None

-- The rule of a macro that takes k arguments, and of whose further tokens this is the rule.
abbrev pub shifted : Rule → ℕ → Option Rule
shifted (Index n) k = index_or Index (n + k)
shifted (IndexByEdition n) k = index_or IndexByEdition (n + k)
shifted FirstLiteral zero = Some FirstLiteral
shifted FirstLiteral (suc k) = None
shifted Templates k = None

-- The right side of an arm whose left side ends with a variable for all further tokens.
abbrev pub right_of : Arm → Right
right_of a = record {
  variable = a.left_close - 5;
  start = a.left_close + 4;
  end = a.right_close;
}

-- By this arm the format string is that of the rule r: the arm takes k arguments and all further
-- tokens, and hands these on to a macro.
pub record IsReadAs (cs : List Call) (xs : List Leaf) (a : Arm) (r : Rule) : Type 0 where
  pub count : ℕ
  pub rule : Rule
  pub takes : IsLeft xs (a.left_opening + 1) count a.left_close
  pub hands_on : HandsOn cs xs (right_of a) rule
  pub is : shifted rule count ≡ Some r

-- The arm takes no tokens.
abbrev pub IsEmpty : Arm → Type 0
IsEmpty a = a.left_close ≡ a.left_opening + 1

-- The arms between two delimiters say that the format string is that of the rule r: an arm does,
-- and so does each one that takes tokens.
pub record Says (cs : List Call) (xs : List Leaf) (opening close : ℕ) (r : Rule) : Type 0 where
  pub arms : List Arm
  pub are_arms : AreArms xs (opening + 1) arms close
  pub some : (a : Arm) × Contains arms a × IsReadAs cs xs a r
  pub each : (a : Arm) → Contains arms a → IsEmpty a ⊎ IsReadAs cs xs a r
