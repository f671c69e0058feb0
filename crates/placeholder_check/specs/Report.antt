-- The mismatches between the placeholders of a text and the arguments that are given for it.
use Rattle.std.specs.Prelude.{ℕ, ◌<◌, ◌≤◌, List}
use Rattle.std.specs.List.{Contains}
use Rattle.rustc_parse_format.specs.Characters.{Text}
use Rattle.placeholder_check.specs.Uses.{Use, ByIndex, used_names}
use Rattle.placeholder_check.specs.Entries.{Lists, AreFirsts}

-- The numbers and names that are used but not given, and those that are given but not used.
pub record Report : Type 0 where
  pub missing_index : List ℕ
  pub missing_name : List Text
  pub unused_index : List ℕ
  pub unused_name : List Text

-- The report on these uses, where `positional` arguments are given by position and `names` by name.
pub record IsReport (us : List Use) (positional : ℕ) (names : List Text) (r : Report) : Type 0 where
  -- The numbers that are used but not given, and those that are given but not used, each in rising
  -- order.
  pub missing_index : Lists (λ n. (positional ≤ n) × Contains us (ByIndex n)) r.missing_index
  pub unused_index : Lists (λ n. (n < positional) × (¬ Contains us (ByIndex n))) r.unused_index
  -- The names that are used but not given, in the order of their first uses, and those that are
  -- given but not used.
  pub missing_name : AreFirsts (used_names us) names r.missing_name
  pub unused_name : AreFirsts names (used_names us) r.unused_name
