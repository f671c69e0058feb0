use Rattle.std.proofs.lemmas.List.{append_assoc}
use Rattle.unified_diff.specs.Rows.{new_text, old_text}
use Rattle.unified_diff.proofs.Texts.{joined-split}
use Rattle.unified_diff.proofs.rows.push_middle.Goals as goal

pub loop-pair-preserved : goal.loop-pair-preserved
loop-pair-preserved c =
    let it = c.loop-pair in
    let pair = c.in-Some.pair in
    record {
      old = rw (
        c.in_ok-push_pair.ensures.old,
        c.rest_after-old_lines.ensures,
        append_assoc (old_text it.rows.items) _ _,
        joined-split pair.old it.old_lines.now,
      )
          it.invariant.old;
      new = rw (
        c.in_ok-push_pair.ensures.new,
        c.rest_after-new_lines.ensures,
        append_assoc (new_text it.rows.items) _ _,
        joined-split pair.new it.new_lines.now,
      )
          it.invariant.new;
    }
