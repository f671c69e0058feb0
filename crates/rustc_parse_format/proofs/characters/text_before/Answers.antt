use Rattle.rustc_parse_format.proofs.Bytes.Texts.{parts, rest_after-le, cut_boundary, chars_front}
use Rattle.rustc_parse_format.proofs.characters.text_before.Goals as goal

pub overflow_sub-text : goal.overflow_sub-text
overflow_sub-text c = rest_after-le _ _ c.requires.0
    (parts _ _ _ c.utf8.text c.utf8.rest_after c.requires.1)

pub range-requires-clause-end_boundary : goal.range-requires-clause-end_boundary
range-requires-clause-end_boundary c =
    cut_boundary _ _ c.requires.0 c.utf8.rest_after (parts _ _ _ c.utf8.text c.utf8.rest_after
    c.requires.1)

pub returns : goal.returns
returns c u e =
    rw c.range.ensures.value (chars_front _ _ u (parts _ _ u c.utf8.text c.utf8.rest_after e))
