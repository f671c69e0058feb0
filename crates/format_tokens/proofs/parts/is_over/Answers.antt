use Rattle.std.proofs.Common.{sym, ◌∙◌}
use Rattle.format_tokens.proofs.Numbers.{counted-all, counted-next, counted-other}
use Rattle.format_tokens.proofs.parts.is_over.Goals as goal

pub returns-then-not-is_ascii_digit : goal.returns-then-not-is_ascii_digit
returns-then-not-is_ascii_digit c =
    counted-other _ _ _ _ _ c.loop-c.invariant c.in-Some.ensures.steps.0
    (sym c.is_ascii_digit.ensures.value ∙ c.if-not-is_ascii_digit.true)

pub loop-c-preserved : goal.loop-c-preserved
loop-c-preserved c =
    rw c.with_digit-number.ensures
    (counted-next _ _ _ _ _ c.loop-c.invariant c.in-Some.ensures.steps.0
    (sym c.is_ascii_digit.ensures.value ∙ c.if-not-is_ascii_digit.false))

pub returns : goal.returns
returns c = counted-all _ _ _ c.loop-c.invariant c.in_default.ensures.steps.0.0
