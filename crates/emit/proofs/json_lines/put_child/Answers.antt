use Rattle.std.proofs.Common.{◌∙◌}
use Rattle.emit.proofs.Texts.{value-after, whole}
use Rattle.emit.proofs.json_lines.put_child.Goals as goal

pub returns : goal.returns
returns c = rw (← c.child_name.ensures) (whole _ _ _ (c.in_ok-put_end.ensures
    ∙ (c.in_ok-put_text_or_null-2.ensures _
    ∙ (value-after _ _ _ _ c.in_ok-put_empty_array.ensures (c.in_ok-put_key-2.ensures _ _)
    ∙ (value-after _ _ _ _ c.in_ok-put_spans.ensures (c.in_ok-put_key.ensures _ _)
    ∙ (c.in_ok-put_text-2.ensures _
    ∙ (c.in_ok-put_text_or_null.ensures _
    ∙ (c.in_ok-put_text.ensures _))))))))
