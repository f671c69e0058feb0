use Rattle.std.proofs.Common.{◌≡◌, drop, map}
use Rattle.drawn_edits.specs.EditedLines.{seen_page, seen_part, with_parts}
use Rattle.drawn_edits.proofs.edited.push_parts.Given as goal

-- The rest, after the lines so far, is all after those at the start.
abbrev pub invariant-loop-part : goal.invariant-loop-part
invariant-loop-part l = with_parts l.style (map seen_part (drop l.part-index l.parts))
    (seen_page l.lines.items l.row.items)
    ≡ with_parts l.style (map seen_part l.parts) (seen_page l.fn.lines.items l.fn.row.items)
