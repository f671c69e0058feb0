use Rattle.std.proofs.Common.{◌∙◌}
use Rattle.emit.proofs.Texts.{whole}
use Rattle.emit.proofs.sarif.put_rule.Goals as goal

pub returns : goal.returns
returns c = rw (← c.in_ok-text.ensures, ← c.as_str.ensures.value)
    (whole _ _ _ (c.in_ok-put_end.ensures
    ∙ (c.in_ok-put_plain_member-3.ensures _
    ∙ (c.in_ok-put_plain_member-2.ensures _
    ∙ (c.in_ok-put_plain_member.ensures _
    ∙ (c.in_ok-put_text.ensures _))))))
