use Rattle.std.proofs.Common.{◌≡◌, ◌++◌, drop, flat_map, string_bytes}
use Rattle.placeholder_check.specs.Views.{texts}
use Rattle.piece_listing.specs.Listing.{name_line}
use Rattle.piece_listing.proofs.report_lines.put_names.Given as goal

-- The lines so far and those of the rest are all the lines.
abbrev pub invariant-loop-name : goal.invariant-loop-name
invariant-loop-name l =
    string_bytes l.out ++ flat_map (name_line l.label) (texts (drop l.name-index l.names))
    ≡ string_bytes l.fn.out ++ flat_map (name_line l.label) (texts l.names)
