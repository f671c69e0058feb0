use Rattle.std.proofs.Common.{◌∙◌}
use Rattle.emit.proofs.Texts.{value-after}
use Rattle.emit.proofs.json_lines.put_details.Goals as goal

pub returns : goal.returns
returns c = rw (← c.replacement-text.ensures, ← c.applicability-word.ensures) (
    c.in_ok-put_end.ensures
    ∙ (c.in_ok-put_text_or_null-4.ensures _
    ∙ (c.in_ok-put_text_or_null-3.ensures _
    ∙ (c.in_ok-put_text_or_null-2.ensures _
    ∙ (c.in_ok-put_text_or_null.ensures _
    ∙ (value-after _ _ _ _ c.in_ok-put_span_lines.ensures (c.in_ok-put_key.ensures _ _)
    ∙ (c.in_ok-put_truth.ensures _)))))))
