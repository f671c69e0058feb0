use Rattle.std.proofs.Common.{◌∙◌, ap}
use Rattle.unified_diff.specs.Rows.{new_text, old_text}
use Rattle.unified_diff.proofs.Texts.{joined-split, new_text-none, old_text-none}
use Rattle.unified_diff.proofs.rows.rows_of.Goals as goal

pub returns-clause-old : goal.returns-clause-old
returns-clause-old c =
    let old_lines = c.in_ok-old_lines.old_lines.items in
    let start = ap (λ rs. old_text rs) c.new-rows.ensures.items ∙ old_text-none in
    rw (
      c.in_ok-push_lines.ensures.old,
      c.in_ok-push_middle.ensures.old,
      start,
      c.front.ensures,
      c.rest_after.ensures,
      c.as_slice-lines.ensures.value,
    ) (joined-split _ old_lines ∙ c.in_ok-old_lines.ensures)

pub returns-clause-new : goal.returns-clause-new
returns-clause-new c =
    let new_lines = c.in_ok-new_lines.new_lines.items in
    let start = ap (λ rs. new_text rs) c.new-rows.ensures.items ∙ new_text-none in
    rw (
      c.in_ok-push_lines.ensures.new,
      c.in_ok-push_middle.ensures.new,
      start,
      c.front-2.ensures,
      c.rest_after.ensures,
      c.common_end-end.ensures.same,
      c.as_slice-others.ensures.value,
    ) (joined-split _ new_lines ∙ c.in_ok-new_lines.ensures)
