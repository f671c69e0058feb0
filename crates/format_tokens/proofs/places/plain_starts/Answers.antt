use Rattle.format_tokens.proofs.Starts.{plain-end, plain-next}
use Rattle.format_tokens.proofs.places.plain_starts.Goals as goal

pub loop-next-preserved : goal.loop-next-preserved
loop-next-preserved c = rw c.len_utf8-next.ensures.value
    (plain-next _ _ _ _ _ _ _ _ c.loop-next.invariant c.in-Some.ensures.steps.0
    c.in_ok-push.ensures.items)

pub returns : goal.returns
returns c b = plain-end _ _ _ _ _ _ _ c.loop-next.invariant c.in_default.ensures.steps.0.0
    c.in_ok-push-2.ensures.items b
