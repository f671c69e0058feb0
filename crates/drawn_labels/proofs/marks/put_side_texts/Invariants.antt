use Rattle.std.proofs.Common.{◌≡◌, drop, map}
use Rattle.drawn_labels.specs.Marks.{seen_hung, side_texts}
use Rattle.drawn_labels.proofs.marks.put_side_texts.Given as goal

-- The cells put into the row, and then those that are left, are all.
abbrev pub invariant-loop-first : goal.invariant-loop-first
invariant-loop-first l = side_texts (map seen_hung (drop l.first-index l.labels)) l.row.items
    ≡ side_texts (map seen_hung l.labels) l.fn.row.items
