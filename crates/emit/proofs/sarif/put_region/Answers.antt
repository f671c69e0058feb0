use Rattle.std.proofs.Common.{◌∙◌}
use Rattle.emit.proofs.Texts.{whole}
use Rattle.emit.proofs.sarif.put_region.Goals as goal

pub returns : goal.returns
returns c = whole _ _ _ (c.in_ok-put_end.ensures
    ∙ (c.in_ok-put_count-4.ensures _
    ∙ (c.in_ok-put_count-3.ensures _
    ∙ (c.in_ok-put_count-2.ensures _
    ∙ (c.in_ok-put_count.ensures _)))))
