use Rattle.std.proofs.Common.{◌≡◌, ◌++◌, drop, flat_map, map, string_bytes}
use Rattle.rustc_parse_format.specs.Views.{seen_error}
use Rattle.piece_listing.specs.Listing.{fault_line}
use Rattle.piece_listing.proofs.listing.put_faults.Given as goal

-- The lines so far and those of the rest are all the lines.
abbrev pub invariant-loop-error : goal.invariant-loop-error
invariant-loop-error l =
    string_bytes l.out ++ flat_map fault_line (map seen_error (drop l.error-index l.errors))
    ≡ string_bytes l.fn.out ++ flat_map fault_line (map seen_error l.errors)
