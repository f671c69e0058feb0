use Rattle.std.proofs.Common.{◌≡◌, drop, map}
use Rattle.drawn_labels.specs.Marks.{with_signs}
use Rattle.drawn_labels.specs.Rows.{seen_mark}
use Rattle.drawn_labels.proofs.marks.put_signs.Given as goal

-- The cells put into the row, and then those that are left, are all.
abbrev pub invariant-loop-mark : goal.invariant-loop-mark
invariant-loop-mark l = with_signs (map seen_mark (drop l.mark-index l.marks)) l.row.items
    ≡ with_signs (map seen_mark l.marks) l.fn.row.items
