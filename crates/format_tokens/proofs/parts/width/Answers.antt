use Rattle.std.proofs.lemmas.Result.{IfOk-weaker}
use Rattle.format_tokens.proofs.Counts.{width-takes}
use Rattle.format_tokens.proofs.parts.width.Goals as goal

pub returns : goal.returns
returns c = IfOk-weaker c.count.result _ _
    (λ rest. width-takes _ _ _ _ _ _ _ _ _ c.from.ensures c.in_ok-rest_after.ensures)
    c.count.ensures.count
