use Rattle.emit.proofs.Texts.{value-after}
use Rattle.emit.proofs.members.put_count.Goals as goal

pub returns : goal.returns
returns c ms =
    value-after _ _ _ _ c.in_ok-put_digits.ensures (c.in_ok-put_key.ensures _ _)
