-- Arguments that are searched for tokens, by numbers that are found once for all tokens.
use Rattle.std.specs.Prelude.{◌≡◌, ◌+◌, ◌-◌, ◌⊎◌, ℕ, Bool, false, List, [], ◌∷◌, codes, drop}
use Rattle.std.specs.Prelude.{length, nat_lt, take}
use Rattle.std.specs.List.{list_any}
use Rattle.rust_trees.specs.Leaves.{Leaf}
use Rattle.format_calls.specs.declared.part.Target.{Target}
use Rattle.format_calls.specs.declared.part.Target.TheVariants.{Variable, Raw}
use Rattle.format_calls.specs.Marks.{is_variable}
use Rattle.format_calls.specs.Modes.{is_text}

-- Arguments are searched for the token.
abbrev pub is_target : Target → Leaf → Bool
is_target Variable x = is_variable x
is_target Raw x = is_text x (codes "raw")

-- The first `last` tokens end with the last wanted one before the token `to`: one stands between a
-- token and that one exactly if the token is one of these.
abbrev pub IsLast : Target → List Leaf → ℕ → ℕ → Type 0
IsLast w xs to last = (from : ℕ)
    → list_any (is_target w) (take (to - from) (drop from xs)) ≡ nat_lt from last

-- These are such numbers for the tokens from one on, one after the other.
abbrev pub AreLastFrom : Target → List Leaf → ℕ → List ℕ → Type 0
AreLastFrom w xs to [] = Unit {0}
AreLastFrom w xs to (n ∷ ns) = IsLast w xs to n × AreLastFrom w xs (to + 1) ns

-- These are such numbers for each token and for the end, or there are none, since no token is
-- wanted.
pub record AreLast (w : Target) (xs : List Leaf) (ns : List ℕ) : Type 0 where
  pub cases : ((ns ≡ []) × (list_any (is_target w) xs ≡ false))
      ⊎ ((length ns ≡ length xs + 1) × AreLastFrom w xs 0 ns)
