use Rattle.std.proofs.Common.{arith}
use Rattle.std.proofs.lemmas.Str.{is_utf8-from_IsUtf8}
use Rattle.rustc_parse_format.proofs.Bytes.ByteFronts.{left-rest_after}
use Rattle.rustc_parse_format.proofs.Sources.Unescaped.{left_over}
use Rattle.rustc_parse_format.proofs.Sources.Places.{left_self}
use Rattle.rustc_parse_format.proofs.source.anchor.after_bytes.Goals as goal

pub returns-then-text-rest-clause-over : goal.returns-then-text-rest-clause-over
returns-then-text-rest-clause-over c = left_self c.args.rest.now c.requires.valid_rest

pub returns-clause-after : goal.returns-clause-after
returns-clause-after c =
    let text = c.args.text.now in
    rw c.range_from.ensures.value
    (left-rest_after text text _ c.floor_char_boundary.ensures.boundary
    (left_self text (is_utf8-from_IsUtf8 text c.utf8.text)))

pub returns-clause-over : goal.returns-clause-over
returns-clause-over c =
    let bound = c.floor_char_boundary.ensures.bound in
    rw c.range_from.ensures.value
    (left_over c.args.text.now c.args.rest.now _ c.floor_char_boundary.ensures.boundary c.requires
    (omega arith))
