use Rattle.std.proofs.Common.{◌≡◌, false, chars, take}
use Rattle.std.specs.List.{list_any}
use Rattle.std.specs.Str.{bytes_eq}
use Rattle.placeholder_check.specs.Views.{texts}
use Rattle.placeholder_check.proofs.names.is_early.Given as goal

-- The names so far are others.
abbrev pub invariant-loop-i : goal.invariant-loop-i
invariant-loop-i l = list_any (bytes_eq (chars l.name)) (texts (take l.i l.names)) ≡ false
