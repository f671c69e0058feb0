use Rattle.std.proofs.Common.{◌∙◌}
use Rattle.emit.proofs.Texts.{whole}
use Rattle.emit.proofs.sarif.put_artifact.Goals as goal

pub returns : goal.returns
returns c = rw (← c.in_ok-text.ensures, ← c.as_str.ensures.value)
    (whole _ _ _ (c.in_ok-put_end.ensures
    ∙ (c.in_ok-put_text.ensures _)))
