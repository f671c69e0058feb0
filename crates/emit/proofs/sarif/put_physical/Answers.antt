use Rattle.std.proofs.Common.{◌∙◌}
use Rattle.emit.proofs.Texts.{value-after, whole}
use Rattle.emit.proofs.sarif.put_physical.Goals as goal

pub returns : goal.returns
returns c = whole _ _ _ (c.in_ok-put_end.ensures
    ∙ (value-after _ _ _ _ c.in_ok-put_region.ensures (c.in_ok-put_key-2.ensures _ _)
    ∙ (value-after _ _ _ _ c.in_ok-put_artifact.ensures (c.in_ok-put_key.ensures _ _))))
