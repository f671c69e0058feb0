use Rattle.std.proofs.lemmas.Bool.{false≢true}
use Rattle.format_tokens.proofs.Taking.{front_boundary, take-none, take-some}
use Rattle.format_tokens.proofs.parts.take.Goals as goal

pub returns-then-bytes-eq0 : goal.returns-then-bytes-eq0
returns-then-bytes-eq0 c u r e w = take-none _ u r _ _ _ c.if-bytes-eq0.true e w

pub returns-in_ok-push-in-Some : goal.returns-in_ok-push-in-Some
returns-in_ok-push-in-Some c u r e w = take-some _ u r _ _ _ _ _ _ _ c.if-bytes-eq0.false
    c.utf8.text e w c.in-Some.ensures.front c.in-Some.ensures.back c.length_of.ensures
    c.in_ok-push-in-Some.ensures.items

pub returns-in-None : goal.returns-in-None
returns-in-None c u r e w =
    absurd (false≢true (c.in-None.ensures.variant.1
    (front_boundary _ u r _ c.utf8.text e w)))
