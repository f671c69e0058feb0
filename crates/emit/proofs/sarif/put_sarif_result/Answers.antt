use Rattle.std.proofs.Common.{refl}
use Rattle.emit.proofs.Texts.{item-after}
use Rattle.emit.proofs.sarif.put_sarif_result.Goals as goal

pub returns : goal.returns
returns c more = item-after _ _ _ _ _ _ c.in_ok-put_comma.ensures c.in_ok-put_result.ensures refl
