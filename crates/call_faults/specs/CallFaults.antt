-- The faults of a call of a macro that takes a format string, as plain data. An argument
-- is named by its index among all that are given, and a placeholder by its index among the pieces
-- of the string.
use Rattle.std.specs.Prelude.{ℕ, Bool, true, false, List}
use Rattle.rustc_parse_format.specs.Characters.{Text}
use Rattle.rustc_parse_format.specs.Faults.{Fault}
use Rattle.rustc_parse_format.specs.World.{Place}
use Rattle.call_faults.specs.declared.faults.InvalidReference.{InvalidReference}
use Rattle.call_faults.specs.declared.faults.Reference.{Reference}

pub data CallFault : Type 0 where
  -- The first argument without a name after one with a name, and those in front that have a name.
  PositionalAfterNamed : ℕ → List ℕ → CallFault
  -- An argument has the name of an earlier one: both, and the second is the first with this name.
  RepeatedName : ℕ → ℕ → CallFault
  -- The string is not in the grammar.
  TextFault : Fault Place → CallFault
  -- The first reference to a name that no argument has, where no variable is captured.
  MissingName : Reference → Text → CallFault
  -- A placeholder asks by its type for a trait that does not exist.
  UnknownTrait : ℕ → Text → CallFault
  -- The references by an index that is too large.
  MissingArguments : List InvalidReference → CallFault
  -- The arguments that no placeholder refers to.
  UnusedArguments : List ℕ → CallFault
  -- Those of them that are a variable which the position of a placeholder has as its name.
  RedundantArguments : List ℕ → CallFault
  -- A reference by index, and the argument with a name that it means.
  NameUsedByIndex : Reference → ℕ → CallFault

-- The fault is only a warning.
abbrev pub is_warning : CallFault → Bool
is_warning (PositionalAfterNamed i ns) = false
is_warning (RepeatedName i f) = false
is_warning (TextFault f) = false
is_warning (MissingName r w) = false
is_warning (UnknownTrait k t) = false
is_warning (MissingArguments rs) = false
is_warning (UnusedArguments is) = false
is_warning (RedundantArguments is) = false
is_warning (NameUsedByIndex r i) = true
