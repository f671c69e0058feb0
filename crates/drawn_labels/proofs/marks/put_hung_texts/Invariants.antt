use Rattle.std.proofs.Common.{◌≡◌, drop, map}
use Rattle.drawn_labels.specs.Marks.{hung_texts, seen_hung}
use Rattle.drawn_labels.proofs.marks.put_hung_texts.Given as goal

-- The cells put into the row, and then those that are left, are all.
abbrev pub invariant-loop-first : goal.invariant-loop-first
invariant-loop-first l = hung_texts l.n (map seen_hung (drop l.first-index l.labels)) l.row.items
    ≡ hung_texts l.n (map seen_hung l.labels) l.fn.row.items
