use Rattle.std.proofs.Common.{◌≡◌, ◌++◌, map, reverse}
use Rattle.std.specs.List.{filter_map}
use Rattle.rustc_parse_format.specs.Views.{seen_error, seen_mode}
use Rattle.fault_fixes.specs.Edits.{made_edits, edits, edit_of}
use Rattle.fault_fixes.specs.SeenEdits.{seen_edit}
use Rattle.fault_fixes.proofs.fixes.edits.Given as goal

-- The edits that were found, and then those of the errors that are left, are all.
abbrev pub invariant-loop-error : goal.invariant-loop-error
invariant-loop-error l =
    map seen_edit l.edits.items
    ++ made_edits l.end (filter_map (edit_of (seen_mode l.mode)) (reverse (map seen_error
    l.error-iterator.iter.rest.now)))
    ≡ edits (seen_mode l.mode) (map seen_error l.errors)
