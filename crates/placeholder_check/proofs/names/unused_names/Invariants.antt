use Rattle.std.proofs.Common.{◌≡◌, List, take}
use Rattle.std.specs.List.{list_any}
use Rattle.std.specs.Str.{bytes_eq}
use Rattle.rustc_parse_format.specs.Characters.{Text}
use Rattle.placeholder_check.specs.Collection.{Follows, is_known}
use Rattle.placeholder_check.specs.Views.{texts}
use Rattle.placeholder_check.proofs.names.unused_names.Given as goal

-- The set has those of the names so far that are not used.
abbrev pub invariant-loop-name : goal.invariant-loop-name
invariant-loop-name l = (ys : List Text)
    → ((t : Text) → is_known l.uses t ≡ list_any (bytes_eq t) ys)
    → Follows (texts (take l.name-index l.names)) ys l.unused_set
