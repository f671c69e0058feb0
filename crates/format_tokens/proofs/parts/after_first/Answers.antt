use Rattle.std.proofs.Common.{ap}
use Rattle.rustc_parse_format.proofs.Bytes.Texts.{chars_after_first}
use Rattle.format_tokens.proofs.parts.after_first.Goals as goal

pub returns : goal.returns
returns c =
    rw (c.as_str.ensures) (rw (← c.chars-rest.ensures.rest)
    (chars_after_first _ _ c.next.result _ (rw c.chars-rest.ensures.rest c.utf8.text)
    (λ e. ap (λ x. x.rest.now) e) c.next.ensures.steps.0))
