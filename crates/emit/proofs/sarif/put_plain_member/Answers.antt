use Rattle.emit.proofs.Texts.{value-after}
use Rattle.emit.proofs.sarif.put_plain_member.Goals as goal

pub returns : goal.returns
returns c ms =
    value-after _ _ _ _ c.in_ok-put_plain.ensures (c.in_ok-put_key.ensures _ _)
