use Rattle.std.proofs.Common.{◌∙◌}
use Rattle.emit.proofs.Texts.{bracket-after, value-after, whole}
use Rattle.emit.proofs.sarif.put_run_start.Goals as goal

pub returns : goal.returns
returns c results done = whole _ _ _ (
    bracket-after _ _ _ results c.in_ok-push_str.ensures.bytes (c.in_ok-put_key-2.ensures _ _
    ∙ (c.in_ok-put_text.ensures _
    ∙ value-after _ _ _ _ c.in_ok-put_tool.ensures (c.in_ok-put_key.ensures _ _))))
