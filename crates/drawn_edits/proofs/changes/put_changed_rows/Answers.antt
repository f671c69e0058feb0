use Rattle.std.proofs.Common.{◌+◌, ◌++◌, ◌∙◌, ap, arith, drop, map, string_bytes, sym}
use Rattle.std.specs.List.{list_any, slice_range}
use Rattle.drawn_edits.specs.EditedLines.{is_added, seen_line, seen_part}
use Rattle.drawn_edits.specs.Helps.{changed_row, changed_rows, lone_addition, lone_sign}
use Rattle.drawn_lines.specs.Frames.{seen_frame}
use Rattle.drawn_edits.proofs.ChangedLines.{changed-kept, changed-new}
use Rattle.drawn_edits.proofs.changes.put_changed_rows.Goals.{}
use Rattle.drawn_edits.proofs.changes.put_changed_rows.Goals.{}
use Rattle.drawn_edits.proofs.changes.put_changed_rows.Goals.{}
use Rattle.drawn_edits.proofs.changes.put_changed_rows.Goals.{}
use Rattle.drawn_edits.proofs.changes.put_changed_rows.Goals.{then-have_addition+in_ok-put_kept_lines+in_ok-put_changed_row}
use Rattle.drawn_edits.proofs.changes.put_changed_rows.Goals.{else-have_addition}
use Rattle.drawn_edits.proofs.changes.put_changed_rows.Goals as goal

pub loop-index-preserved : goal.loop-index-preserved
loop-index-preserved c =
    let l = c.loop-index in
    let f = seen_frame c.args.frame.now in
    let n = c.args.number in
    let ls = c.args.lines.now in
    let x = c.index-lines-index.result in
    elim c.if-have_addition.branch [
      | then-have_addition+in_ok-put_kept_lines+in_ok-put_changed_row w ↦
          rw (w.first_index-is, w.out-is) record {
            before = omega arith;
            same = ap (λ t. t ++ changed_rows f (n + (l.index + 1))
                (map seen_line (slice_range ls (l.index + 1) (l.index + 1)))
                (map seen_line (drop (l.index + 1) ls)))
                (w.in_ok-put_changed_row.ensures
                ∙ ap (λ ys. string_bytes w.put_kept_lines.new.out ++ changed_row f (n + l.index)
                (map seen_part ys)
                (lone_sign (map seen_part ys) (lone_addition (map seen_part ys))))
                w.deref-then-have_addition.ensures.value
                ∙ ap (λ t. t ++ changed_row f (n + l.index) (seen_line x)
                (lone_sign (seen_line x) (lone_addition (seen_line x))))
                w.in_ok-put_kept_lines.ensures)
                ∙ changed-new f seen_line ls n l.first_index l.index x (string_bytes l.out)
                l.invariant.before c.loop-index-test.true c.index-lines-index.is
                (ap (λ ys. list_any is_added (map seen_part ys)) (sym c.deref.ensures.value)
                ∙ sym c.have_addition.ensures ∙ w.if-have_addition.true)
                ∙ l.invariant.same;
          }
      | else-have_addition w ↦
          rw (w.first_index-is, w.out-is) record {
            before = omega (arith, l.invariant.before);
            same = ap (λ t. string_bytes l.out ++ t)
                (changed-kept f seen_line ls (n + l.first_index) l.first_index l.index x
                l.invariant.before c.loop-index-test.true c.index-lines-index.is
                (ap (λ ys. list_any is_added (map seen_part ys)) (sym c.deref.ensures.value)
                ∙ sym c.have_addition.ensures ∙ w.if-have_addition.false))
                ∙ l.invariant.same;
          }
    ]
