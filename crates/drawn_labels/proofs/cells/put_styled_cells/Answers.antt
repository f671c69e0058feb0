use Rattle.std.proofs.Common.{◌+◌, ◌++◌, ◌∙◌, ap, append_assoc, drop, get_or, string_bytes, sym}
use Rattle.std.proofs.lemmas.List.{drop_more}
use Rattle.std.specs.Prelude.{encode_utf8}
use Rattle.drawn_lines.specs.Painting.{change, pieces_after}
use Rattle.drawn_labels.specs.Rows.{cell_pieces}
use Rattle.drawn_labels.specs.declared.cells.Cell.{Cell}
use Rattle.drawn_lines.specs.declared.paint.Style.TheVariants.{Plain}
use Rattle.drawn_labels.proofs.MarkLemmas.{cells-step}
use Rattle.drawn_labels.proofs.cells.put_styled_cells.Goals as goal

pub loop-cell-preserved : goal.loop-cell-preserved
loop-cell-preserved c =
    let l = c.loop-cell in
    let p = c.args.palette in
    let cs = c.args.cells.now in
    let none : Cell = record { character = 0; style = Plain } in
    let x = get_or cs l.cell-index none in
    let rest = drop (l.cell-index + 1) cs in
    let o = string_bytes l.out in
    let a = change p l.style x.style in
    let b = encode_utf8 x.character in
    let z = pieces_after p x.style (cell_pieces rest) in
    ap (λ t. t ++ z) (c.in_ok-push.ensures.bytes ∙ ap (λ t. t ++ b) c.in_ok-put_change.ensures)
    ∙ append_assoc (o ++ a) b z ∙ append_assoc o a (b ++ z)
    ∙ ap (λ t. o ++ t) (sym (cells-step p l.style x rest))
    ∙ ap (λ t. o ++ pieces_after p l.style (cell_pieces t))
    (sym (drop_more cs l.cell-index none c.loop-cell-test.true))
    ∙ l.invariant
