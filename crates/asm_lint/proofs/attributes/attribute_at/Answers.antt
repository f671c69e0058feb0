use Rattle.asm_lint.proofs.attributes.attribute_at.Goals as goal

pub returns-clause-none : goal.returns-clause-none
returns-clause-none c = λ e k a. c.closing_token.ensures.none e k a.list
