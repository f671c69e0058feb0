use Rattle.std.proofs.Common.{◌∙◌}
use Rattle.emit.proofs.Texts.{value-after}
use Rattle.emit.proofs.json_lines.put_below.Goals as goal

pub returns : goal.returns
returns c =
    c.in_ok-put_end.ensures
    ∙ (c.in_ok-put_text.ensures _
    ∙ (value-after _ _ _ _ c.in_ok-put_children.ensures (c.in_ok-put_key-2.ensures _ _)
    ∙ (value-after _ _ _ _ c.in_ok-put_spans.ensures (c.in_ok-put_key.ensures _ _))))
