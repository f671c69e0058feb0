use Rattle.std.proofs.Common.{◌∙◌, ap}
use Rattle.std.specs.Int.{from_bool}
use Rattle.std.proofs.lemmas.Result.{IfOk-weaker}
use Rattle.format_tokens.proofs.Skipping.{skips}
use Rattle.format_tokens.proofs.walk.skip.Goals as goal

pub returns : goal.returns
returns c = IfOk-weaker c.take-2.result _ _
    (λ rest. skips _ _ _ _ _ _ _ _ _
    (λ u r h e. c.from-brace.ensures ∙ ap from_bool (c.is_closed.ensures u r h e))
    c.saturating_sub.ensures c.in_ok-close.ensures)
    c.take-2.ensures
