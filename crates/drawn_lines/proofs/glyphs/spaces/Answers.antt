use Rattle.std.proofs.Common.{◌∙◌}
use Rattle.drawn_lines.proofs.Spaces.{cut-spaces, front-spaces}
use Rattle.drawn_lines.proofs.glyphs.spaces.Goals as goal

pub range-requires-clause-end_boundary : goal.range-requires-clause-end_boundary
range-requires-clause-end_boundary c =
    cut-spaces c.row_of_spaces-row.result.now 64 c.args.count c.row_of_spaces-row.ensures c.requires

pub returns : goal.returns
returns c =
    c.range.ensures.value
    ∙ front-spaces c.row_of_spaces-row.result.now 64 c.args.count c.row_of_spaces-row.ensures
    c.requires
