use Rattle.std.proofs.Common.{◌≡◌, length}
use Rattle.drawn_labels.specs.Marks.{cells, put_cells_from}
use denote.Text.{Utf8}
use denote.Shadow.{shadow}
use Rattle.drawn_labels.proofs.cells.put_text_from.Given as goal

-- The cells put into the row, and then those that are left, are all.
abbrev pub invariant-loop-c : goal.invariant-loop-c
invariant-loop-c l = record {
  is_text : shadow (Utf8 l.rest);
  same : put_cells_from l.column (cells l.style l.rest) l.row.items
      ≡ put_cells_from l.start (cells l.style l.text) l.fn.row.items;
}

abbrev pub decreases-loop-c : goal.decreases-loop-c
decreases-loop-c l = length l.rest
