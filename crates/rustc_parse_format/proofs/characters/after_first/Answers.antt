use Rattle.std.proofs.Common.{ap}
use Rattle.rustc_parse_format.proofs.Bytes.Texts.{chars_after_first, left_after_first}
use Rattle.rustc_parse_format.proofs.characters.after_first.Goals as goal

pub returns-clause-rest : goal.returns-clause-rest
returns-clause-rest c =
    rw (c.as_str.ensures) (rw (← c.chars-rest.ensures.rest)
    (chars_after_first _ _ c.next.result _ (rw c.chars-rest.ensures.rest c.utf8.text)
    (λ e. ap (λ x. x.rest.now) e) c.next.ensures.steps.0))

pub returns-clause-left : goal.returns-clause-left
returns-clause-left c input l =
    rw (c.as_str.ensures)
    (left_after_first input _ _ c.next.result _
    (λ e. ap (λ x. x.rest.now) e) c.next.ensures.steps.0 (rw c.chars-rest.ensures.rest l))
