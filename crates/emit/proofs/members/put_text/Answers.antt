use Rattle.emit.proofs.Texts.{value-after}
use Rattle.emit.proofs.members.put_text.Goals as goal

pub returns : goal.returns
returns c ms =
    value-after _ _ _ _ c.in_ok-put_string.ensures (c.in_ok-put_key.ensures _ _)
