use Rattle.std.proofs.Common.{◌∙◌}
use Rattle.drawn_labels.proofs.MarkLemmas.{put-run}
use Rattle.drawn_labels.proofs.cells.put_run_at.Goals as goal

pub loop-countdown-preserved : goal.loop-countdown-preserved
loop-countdown-preserved c = λ cs.
    let l = c.loop-countdown in
    rw c.in_ok-put_cell_at.ensures.value
    (put-run l.column l.countdown c.args.cell cs l.row.items c.loop-countdown-test.true
    ∙ l.invariant cs)
