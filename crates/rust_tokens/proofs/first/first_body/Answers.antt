use Rattle.std.proofs.Common.{sym, ◌∙◌}
use Rattle.rust_tokens.proofs.FirstBodies.{first-opened, first-unopened}
use Rattle.rust_tokens.proofs.first.first_body.Goals as goal

pub returns-in-Some-first_opening : goal.returns-in-Some-first_opening
returns-in-Some-first_opening c =
    first-opened _ _ _ _ _ _ c.in-Some.ensures.value (sym c.is_space.ensures ∙ c.if-is_space.false)
    c.in-Some-first_opening.ensures c.opened_token.ensures

pub returns-in-None : goal.returns-in-None
returns-in-None c =
    first-unopened _ _ _ _ c.in-Some.ensures.value (sym c.is_space.ensures ∙ c.if-is_space.false)
    c.in-None.ensures
    c.first_plain.ensures
