use Rattle.std.proofs.Common.{◌≡◌, is_some, map, take}
use Rattle.std.specs.List.{list_any}
use Rattle.rustc_parse_format.specs.Characters.{Text}
use Rattle.call_faults.specs.Notes.{is_variable}
use Rattle.call_faults.specs.Views.{found_in, seen_given}
use Rattle.call_faults.proofs.notes.variables_of.Given as goal

-- The map has the variables of the arguments so far.
abbrev pub invariant-loop-index : goal.invariant-loop-index
invariant-loop-index l = (w : Text) → is_some (found_in l.names w)
    ≡ list_any (is_variable (map seen_given l.arguments) w) (take l.index-index l.indices)
