use Rattle.std.proofs.Common.{◌≡◌, ◌-◌, length}
use Rattle.drawn_labels.specs.Marks.{put_cell_at}
use Rattle.drawn_labels.proofs.cells.put_cell_at.Given as goal

-- Spaces at the end of the row change nothing.
abbrev pub invariant-loop-row : goal.invariant-loop-row
invariant-loop-row l = put_cell_at l.column l.cell l.row.items
    ≡ put_cell_at l.column l.cell l.fn.row.items

abbrev pub decreases-loop-row : goal.decreases-loop-row
decreases-loop-row l = l.column - length l.row.items
