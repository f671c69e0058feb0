-- What becomes of the tokens of a call whose macro hands them on.
use Prim.Native.Char.{code}
use Rattle.std.specs.Prelude.{◌≡◌, ◌++◌, ◌-◌, ◌+◌, ◌⊎◌, ℕ, zero, suc, IsTrue, List, [], ◌∷◌, Option}
use Rattle.std.specs.Prelude.{Contains, Some, drop, if◌then◌else◌, take}
use Rattle.rust_trees.specs.Leaves.{Leaf}
use Rattle.rust_trees.specs.Forests.{Pairs}
use Rattle.format_calls.specs.declared.listing.Call.{Call}
use Rattle.format_calls.specs.declared.table.Rule.{Rule}
use Rattle.format_calls.specs.Rows.{Entry}
use Rattle.format_calls.specs.Calls.{IsCall, rule_of_leaf}
use Rattle.format_calls.specs.Marks.{is_mark_of}
use Rattle.macro_owners.specs.declared.arms.Arm.{Arm}
use Rattle.macro_owners.specs.declared.rights.Right.{Right}
use Rattle.macro_owners.specs.Arms.{IsEmpty, Says, right_of, shifted}
use Rattle.macro_owners.specs.Lefts.{IsLeft}
use Rattle.macro_owners.specs.Rights.{variable_of}
use Rattle.macro_owners.specs.Words.{is_copy}

-- Tokens after these k, with the tokens ts for each `$($v)*`. Other variables stay as they are.
abbrev pub expand : Option Leaf → List Leaf → ℕ → List Leaf → List Leaf
expand v ts k [] = []
expand v ts (suc k) (x ∷ xs) = expand v ts k xs
expand v ts zero (x ∷ xs) =
    if is_copy (x ∷ xs) v 0 then ts ++ expand v ts 5 xs else x ∷ expand v ts 0 xs

-- The tokens of a right side.
abbrev pub tokens_of : List Leaf → Right → List Leaf
tokens_of xs t = take (t.end - t.start) (drop t.start xs)

-- What an arm makes of the tokens ts that the variable takes for all further tokens.
abbrev pub expansion : List Leaf → Arm → List Leaf → List Leaf
expansion xs a ts = expand (variable_of xs (right_of a)) ts 0 (tokens_of xs (right_of a))

-- Among the tokens ys there is a call of a macro of the rule r, whose tokens are ts.
pub record HasCall (es : List Entry) (r : Rule) (ts ys : List Leaf) : Type 0 where
  pub before : List Leaf
  pub name : Leaf
  pub bang : Leaf
  pub opening : Leaf
  pub closing : Leaf
  pub after : List Leaf
  pub joins : ys ≡ before ++ name ∷ bang ∷ opening ∷ (ts ++ closing ∷ after)
  pub is_listed : rule_of_leaf es (Some name) ≡ Some r
  pub is_macro : IsTrue (is_mark_of (code "!") (Some bang))
  pub pairs : Pairs opening closing

-- An arm takes arguments, and then tokens ts: whatever these are, in what the arm makes of them
-- they are all tokens of a call of a known macro. The rule r of the arm is the rule of that one,
-- with the arguments before it.
pub record IsForwarded (es : List Entry) (xs : List Leaf) (a : Arm) (r : Rule) : Type 0 where
  pub count : ℕ
  pub rule : Rule
  pub takes : IsLeft xs (a.left_opening + 1) count a.left_close
  pub is : shifted rule count ≡ Some r
  pub calls : (ts : List Leaf) → HasCall es rule ts (expansion xs a ts)

-- Whichever arm of a definition takes the tokens of a call: it takes none, or it hands them on.
abbrev pub ForwardsAll : List Entry → Type 0
ForwardsAll es = (xs : List Leaf) (cs : List Call) → ((c : Call) → Contains cs c → IsCall es xs c)
    → (opening close : ℕ) (r : Rule) (s : Says cs xs opening close r) (a : Arm)
    → Contains s.arms a → IsEmpty a ⊎ IsForwarded es xs a r
