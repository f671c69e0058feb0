use Rattle.rustc_parse_format.proofs.Bytes.ByteFronts.{
  chars-rest_after,
  front-boundary,
  left-rest_after,
}
use Rattle.rustc_parse_format.proofs.characters.after_run.Goals as goal

pub range_from-requires : goal.range_from-requires
range_from-requires c _ = front-boundary _ c.requires _ _
    (rw (c.as_bytes.ensures.value) at c.run_width-width.ensures)

pub returns-clause-rest : goal.returns-clause-rest
returns-clause-rest c =
    rw (c.range_from.ensures.value)
    (chars-rest_after _ c.requires _ _ c.utf8.text
    (rw (c.as_bytes.ensures.value) at c.run_width-width.ensures))

pub returns-clause-left : goal.returns-clause-left
returns-clause-left c input l =
    rw (c.range_from.ensures.value)
    (left-rest_after input _ _
    (front-boundary _ c.requires _ _
    (rw (c.as_bytes.ensures.value) at c.run_width-width.ensures)) l)
