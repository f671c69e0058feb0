use Rattle.std.proofs.Common.{refl}
use Rattle.asm_lint.proofs.FrontSteps.{none-opens}
use Rattle.asm_lint.proofs.attributes.after_front.Goals as goal

pub returns-in-None-clause-none : goal.returns-in-None-clause-none
returns-in-None-clause-none c = λ e j f. none-opens c.args.source.now c.args.index j
    (rw c.tokens-tokens.ensures at c.if-opens_front.ensures.value)
    (λ n p. c.in-None.ensures.none refl n p) f
