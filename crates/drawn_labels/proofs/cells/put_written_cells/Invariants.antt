use Rattle.std.proofs.Common.{◌≡◌, ◌++◌, drop, string_bytes}
use Rattle.drawn_lines.specs.Painting.{plain_text}
use Rattle.drawn_labels.specs.Rows.{cell_pieces}
use Rattle.drawn_labels.proofs.cells.put_written_cells.Given as goal

-- The text added, and then the rest of it, is all.
abbrev pub invariant-loop-cell : goal.invariant-loop-cell
invariant-loop-cell l =
    string_bytes l.out ++ plain_text (cell_pieces (drop l.cell-index l.cells))
    ≡ string_bytes l.fn.out ++ plain_text (cell_pieces l.cells)
