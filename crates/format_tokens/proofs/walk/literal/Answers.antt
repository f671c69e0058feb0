use Rattle.std.proofs.Common.{◌-◌, ap, ◌∙◌, refl}
use Rattle.std.proofs.lemmas.Result.{IfOk-weaker}
use Rattle.format_tokens.proofs.Calls.{literal-took}
use Rattle.format_tokens.proofs.walk.literal.Goals as goal

pub returns : goal.returns
returns c = IfOk-weaker c.take-2.result _ _
    (λ rest_after taken mode n l given left.
    literal-took mode n _ l _ _ _ _ _ _ _ _ _ refl given c.escape_width.ensures
    c.in_ok-rest.ensures
    (c.saturating_sub.ensures ∙ ap (λ k. k - c.args.rest_len) c.width_of.ensures)
    taken left)
    c.take-2.ensures
