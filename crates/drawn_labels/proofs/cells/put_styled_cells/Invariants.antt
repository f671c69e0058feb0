use Rattle.std.proofs.Common.{◌≡◌, ◌++◌, drop, string_bytes}
use Rattle.drawn_lines.specs.Painting.{pieces_after}
use Rattle.drawn_labels.specs.Rows.{cell_pieces}
use Rattle.drawn_lines.specs.declared.paint.Style.TheVariants.{Plain}
use Rattle.drawn_labels.proofs.cells.put_styled_cells.Given as goal

-- The text added, and then the rest of it, is all.
abbrev pub invariant-loop-cell : goal.invariant-loop-cell
invariant-loop-cell l = string_bytes l.out
    ++ pieces_after l.palette l.style (cell_pieces (drop l.cell-index l.cells))
    ≡ string_bytes l.fn.out ++ pieces_after l.palette Plain (cell_pieces l.cells)
