use Rattle.std.proofs.Common.{◌≡◌, drop, map}
use Rattle.drawn_labels.specs.Marks.{bars, seen_hung}
use Rattle.drawn_labels.proofs.marks.put_bars.Given as goal

-- The cells put into the row, and then those that are left, are all.
abbrev pub invariant-loop-first : goal.invariant-loop-first
invariant-loop-first l = bars l.n (map seen_hung (drop l.first-index l.labels)) l.row.items
    ≡ bars l.n (map seen_hung l.labels) l.fn.row.items
