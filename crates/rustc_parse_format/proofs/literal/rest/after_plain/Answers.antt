use Rattle.rustc_parse_format.specs.LiteralUnits.{is_plain}
use Rattle.rustc_parse_format.proofs.Bytes.ByteFronts.{shared-boundary}
use Rattle.rustc_parse_format.proofs.Literals.Plain.{plain-rest_after}
use Rattle.rustc_parse_format.proofs.literal.rest.after_plain.Goals as goal

pub range_from-requires : goal.range_from-requires
range_from-requires c _ = c.floor_char_boundary-width.ensures.boundary

pub range_from-requires-2 : goal.range_from-requires-2
range_from-requires-2 c _ =
    shared-boundary is_plain c.args.text.now c.args.other.now c.floor_char_boundary-width.result
    c.plain_width-same_width.result c.utf8.text c.utf8.other
    c.floor_char_boundary-width.ensures.boundary c.floor_char_boundary-width.ensures.bound
    (rw (
      c.as_bytes-bytes.ensures.value,
      c.as_bytes-others.ensures.value,
    ) at c.plain_width-same_width.ensures)

pub returns : goal.returns
returns c =
    rw (c.range_from.ensures.value, c.range_from-2.ensures.value)
    (plain-rest_after c.args.text.now c.args.other.now c.floor_char_boundary-width.result
    c.plain_width-same_width.result c.utf8.text c.utf8.other
    c.floor_char_boundary-width.ensures.boundary c.floor_char_boundary-width.ensures.bound
    (rw (
      c.as_bytes-bytes.ensures.value,
      c.as_bytes-others.ensures.value,
    ) at c.plain_width-same_width.ensures))
