-- The arguments of a call, and what is wrong with their list alone. The public rule is in the
-- documentation of `std::fmt`: arguments by position stand in front of those by name.
use Rattle.std.specs.Prelude.{ℕ, suc, ◌≢◌, ◌++◌, ◌&&◌, Bool, true, false, if◌then◌else◌, not}
use Rattle.std.specs.Prelude.{List, [], ◌∷◌, filter, map, Option, Some, None, is_some}
use Rattle.std.specs.Prelude.{option_and_then}
use Rattle.std.specs.Option.{option_map_or}
use Rattle.std.specs.List.{list_any}
use Rattle.std.specs.Str.{bytes_eq}
use Rattle.rustc_parse_format.specs.Characters.{Text}
use Rattle.call_faults.specs.CallFaults.{CallFault, PositionalAfterNamed, RepeatedName}

-- An argument: its name, if it has one, and the variable that it is, if it is nothing else.
pub record FormatArgument : Type 0 where
  pub name : Option Text
  pub variable : Option Text

-- An argument with the first of these names, or none, may stand in front of one with the second:
-- names differ, and stand after the arguments without one.
abbrev pub MayPrecede : Option Text → Option Text → Type 0
MayPrecede None n = Unit {0}
MayPrecede (Some w) None = ⊥
MayPrecede (Some w) (Some v) = w ≢ v

-- An argument and its index among all that are given.
pub record Entry : Type 0 where
  pub index : ℕ
  pub argument : FormatArgument

-- The argument has this name.
abbrev pub has_name : Text → FormatArgument → Bool
has_name w g = option_map_or (bytes_eq w) g.name false

-- The index of the first of these arguments with this name, if there is one.
abbrev pub index_of : List Entry → Text → Option ℕ
index_of [] w = None
index_of (k ∷ ks) w = if has_name w k.argument then Some k.index else index_of ks w

-- The index of the first of these arguments with the name that g has, if there is one.
abbrev pub first_of : List Entry → FormatArgument → Option ℕ
first_of ks g = option_and_then (index_of ks) g.name

-- The argument g stands without a name after these, and one of them has a name.
abbrev pub is_late : List Entry → FormatArgument → Bool
is_late ks g = not (is_some g.name) && list_any (λ k. is_some k.argument.name) ks

-- The arguments ks that count, and then g with the index i, unless its name is that of one of them.
abbrev pub with_given : List Entry → ℕ → FormatArgument → List Entry
with_given ks i g = if is_some (first_of ks g) then ks
    else ks ++ record { index = i; argument = g } ∷ []

-- The arguments that count, where ks are those of the first i ones, and gs are the others.
abbrev pub kept_after : List Entry → ℕ → List FormatArgument → List Entry
kept_after ks i [] = ks
kept_after ks i (g ∷ gs) = kept_after (with_given ks i g) (suc i) gs

-- The indices of those of these arguments that have a name.
abbrev pub named_of : List Entry → List ℕ
named_of ks = map (λ k. k.index) (filter (λ k. is_some k.argument.name) ks)

-- The fault of the argument with the index i, if the first argument with its name is this one.
abbrev pub repeated_name_faults : ℕ → Option ℕ → List CallFault
repeated_name_faults i None = []
repeated_name_faults i (Some f) = RepeatedName i f ∷ []

-- The faults of the list of arguments, where ks are those that count of the first i ones, and
-- gs are the others. The first one without a name after one with a name ends it.
abbrev pub list_faults : List Entry → ℕ → List FormatArgument → List CallFault
list_faults ks i [] = []
list_faults ks i (g ∷ gs) = if is_late ks g then PositionalAfterNamed i (named_of ks) ∷ []
    else repeated_name_faults i (first_of ks g) ++ list_faults (with_given ks i g) (suc i) gs
