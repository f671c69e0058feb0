use Rattle.std.proofs.Common.{◌≡◌, map, take}
use Rattle.drawn_faults.specs.Diagnostics.{in_line}
use Rattle.drawn_labels.specs.Rows.{seen_mark}
use Rattle.drawn_faults.proofs.marked.in_line.Given as goal

-- The list has those so far that begin in the line.
abbrev pub invariant-loop-mark : goal.invariant-loop-mark
invariant-loop-mark l = map seen_mark l.list.items
    ≡ in_line l.number (map seen_mark (take l.mark-index l.marks))
