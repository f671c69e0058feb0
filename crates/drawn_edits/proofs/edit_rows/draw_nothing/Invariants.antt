use Rattle.std.proofs.Common.{◌≡◌, ◌==◌, drop, length, map}
use Rattle.drawn_edits.specs.EditedLines.{seen_part}
use Rattle.drawn_edits.specs.Helps.{drawn_pieces}
use Rattle.drawn_lines.specs.Painting.{plain_text}
use Rattle.drawn_edits.proofs.edit_rows.draw_nothing.Given as goal

-- The answer for the rest is the answer for all.
abbrev pub invariant-loop-part : goal.invariant-loop-part
invariant-loop-part l =
    (length (plain_text (drawn_pieces (map seen_part (drop l.part-index l.parts)))) == 0)
    ≡ (length (plain_text (drawn_pieces (map seen_part l.parts))) == 0)
