use Rattle.std.proofs.Common.{◌≡◌, ◌≤◌, ◌||◌, take}
use Rattle.std.specs.List.{list_any}
use Rattle.std.specs.Str.{bytes_eq}
use Rattle.rustc_parse_format.specs.Characters.{Text}
use Rattle.placeholder_check.specs.Collection.{has_text}
use Rattle.placeholder_check.specs.Views.{texts}
use Rattle.placeholder_check.proofs.names.later_names.Given as goal

-- The set has the names so far but for the first 16.
abbrev pub invariant-loop-i : goal.invariant-loop-i
invariant-loop-i l = (16 ≤ l.i) × ((t : Text)
    → (list_any (bytes_eq t) (texts (take 16 l.names)) || has_text l.later_set t)
    ≡ list_any (bytes_eq t) (texts (take l.i l.names)))
