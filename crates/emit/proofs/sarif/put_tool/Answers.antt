use Rattle.std.proofs.Common.{◌∙◌}
use Rattle.emit.proofs.Texts.{value-after, whole}
use Rattle.emit.proofs.sarif.put_tool.Goals as goal

pub returns : goal.returns
returns c = whole _ _ _ (c.in_ok-put_end.ensures
    ∙ (value-after _ _ _ _ c.in_ok-put_driver.ensures (c.in_ok-put_key.ensures _ _)))
