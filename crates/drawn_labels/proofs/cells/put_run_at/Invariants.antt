use Rattle.std.proofs.Common.{◌≡◌, ◌++◌, List, replicate}
use Rattle.drawn_labels.specs.Marks.{put_cells_from}
use Rattle.drawn_labels.specs.declared.cells.Cell.{Cell}
use Rattle.drawn_labels.proofs.cells.put_run_at.Given as goal

-- The cells put into the row, and then those that are left, are all.
abbrev pub invariant-loop-countdown : goal.invariant-loop-countdown
invariant-loop-countdown l = (cs : List Cell)
    → put_cells_from l.column (replicate l.countdown l.cell ++ cs) l.row.items
    ≡ put_cells_from l.start (replicate l.count l.cell ++ cs) l.fn.row.items

abbrev pub decreases-loop-countdown : goal.decreases-loop-countdown
decreases-loop-countdown l = l.countdown
