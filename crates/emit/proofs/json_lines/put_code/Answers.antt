use Rattle.std.proofs.Common.{◌∙◌}
use Rattle.emit.proofs.Texts.{whole}
use Rattle.emit.proofs.json_lines.put_code.Goals as goal

pub returns : goal.returns
returns c = whole _ _ _ (c.in_ok-put_end.ensures
    ∙ (c.in_ok-put_text_or_null.ensures _
    ∙ (c.in_ok-put_text.ensures _)))
