use Rattle.std.proofs.Common.{◌∙◌, ap, chars, map, rules, sym}
use Rattle.drawn_lines.specs.Glyphs.{glyphs}
use Rattle.drawn_labels.specs.Marks.{cells, put_cells_from}
use Rattle.drawn_labels.specs.Rows.{cell}
use Rattle.drawn_labels.proofs.MarkLemmas.{cells-first}
use Rattle.drawn_labels.proofs.cells.put_text_from.Goals as goal

pub loop-c-preserved : goal.loop-c-preserved
loop-c-preserved c =
    let l = c.loop-c in
    let s = c.args.style in
    let first = c.in-Some in record {
      is_text = search rules;
      same = (rw (c.glyph_count.ensures.value, c.glyph-character.ensures)
          at (c.in_ok-column.ensures (cells s first.tail.now)))
          ∙ ap (λ cs. put_cells_from l.column cs l.row.items) (sym (cells-first s first.c
          (chars first.tail.now)))
          ∙ ap (λ t. put_cells_from l.column (map (cell s) (glyphs t)) l.row.items)
          (sym first.ensures.parts) ∙ l.invariant.same;
    }
