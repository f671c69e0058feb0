use Rattle.std.proofs.Common.{take}
use Rattle.rustc_parse_format.proofs.Bytes.ByteFronts.{pass-part}
use Rattle.drawn_lines.specs.Glyphs.{is_drawn_as_is}
use Rattle.drawn_lines.proofs.PrintableLemmas.{drawn-as-is, pass-as-is}
use Rattle.drawn_lines.proofs.printable.split_as_is.Goals as goal

pub returns-clause-drawn : goal.returns-clause-drawn
returns-clause-drawn c =
    let pass = pass-as-is (take c.front_width.result c.args.text.now)
    (rw c.as_bytes.ensures.value at c.front_width.ensures.pass) in
    let width = c.floor_char_boundary-width.ensures in
    let front = pass-part is_drawn_as_is c.args.text.now c.floor_char_boundary-width.result
    c.front_width.result width.bound pass in
    rw (c.split_at.ensures.front, c.split_at.ensures.back)
    (drawn-as-is c.args.text.now c.floor_char_boundary-width.result c.utf8.text width.boundary
    front)
