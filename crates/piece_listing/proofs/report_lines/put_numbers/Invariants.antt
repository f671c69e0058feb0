use Rattle.std.proofs.Common.{◌≡◌, ◌++◌, drop, flat_map, string_bytes}
use Rattle.piece_listing.specs.Listing.{index_line}
use Rattle.piece_listing.proofs.report_lines.put_numbers.Given as goal

-- The lines so far and those of the rest are all the lines.
abbrev pub invariant-loop-n : goal.invariant-loop-n
invariant-loop-n l =
    string_bytes l.out ++ flat_map (index_line l.label) (drop l.n-index l.numbers)
    ≡ string_bytes l.fn.out ++ flat_map (index_line l.label) l.numbers
