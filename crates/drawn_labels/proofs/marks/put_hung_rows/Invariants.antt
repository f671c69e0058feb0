use Rattle.std.proofs.Common.{◌≡◌, ◌++◌, map, string_bytes}
use Rattle.drawn_labels.specs.Marks.{hung_rows, seen_hung}
use Rattle.drawn_labels.proofs.marks.put_hung_rows.Given as goal

-- The rows so far have been added.
abbrev pub invariant-loop-row_number : goal.invariant-loop-row_number
invariant-loop-row_number l = string_bytes l.out
    ≡ string_bytes l.fn.out ++ hung_rows l.gutter l.row_number (map seen_hung l.labels)
