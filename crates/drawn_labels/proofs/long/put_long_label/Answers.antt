use Rattle.std.proofs.Common.{string_bytes}
use Rattle.drawn_lines.specs.Frames.{seen_frame}
use Rattle.drawn_labels.specs.Labels.{seen_label}
use Rattle.drawn_labels.proofs.LongLaws.{long-adds, long-whole}
use Rattle.drawn_labels.proofs.long.put_long_label.Goals as goal

pub returns-clause-signs : goal.returns-clause-signs
returns-clause-signs c = λ h lines.
    let f = seen_frame c.args.frame.now in
    let l = seen_label c.args.label.now in
    let old = string_bytes c.args.out.now in
    let new = string_bytes c.put_last_rows.new.out in
    long-adds f l old new h lines (long-whole f l old (string_bytes c.put_first_rows.new.out)
    (string_bytes c.put_rows_between.new.out) new c.in_ok-put_first_rows.ensures
    c.in_ok-put_rows_between.ensures c.in_ok-put_last_rows.ensures)
