use Rattle.std.proofs.lemmas.Bool.{false≢true}
use Rattle.format_tokens.proofs.Skipping.{closed-found}
use Rattle.format_tokens.proofs.Taking.{front_boundary, front_chars}
use Rattle.format_tokens.proofs.walk.is_closed.Goals as goal

pub returns-in-Some : goal.returns-in-Some
returns-in-Some c u r e w =
    closed-found u _ _ _ (front_chars _ u r _ _ c.utf8.text e w c.in-Some.ensures.front)
    c.before_brace.ensures c.is_some.ensures

pub returns-in-None : goal.returns-in-None
returns-in-None c u r e w =
    absurd (false≢true (c.in-None.ensures.variant.1
    (front_boundary _ u r _ c.utf8.text e w)))
