use Rattle.std.proofs.Common.{◌≡◌, ◌++◌, ◌∷◌, drop, map, string_bytes}
use Rattle.drawn_edits.specs.EditedLines.{seen_part}
use Rattle.drawn_edits.specs.Helps.{drawn_pieces}
use Rattle.drawn_lines.specs.Painting.{piece, pieces_after}
use Rattle.drawn_lines.specs.declared.paint.Style.TheVariants.{Plain}
use Rattle.drawn_edits.proofs.edit_rows.put_coloured_parts.Given as goal

-- The text added, and then the rest of it, is all.
abbrev pub invariant-loop-part : goal.invariant-loop-part
invariant-loop-part l = string_bytes l.out
    ++ pieces_after l.palette l.last (drawn_pieces (map seen_part (drop l.part-index l.parts)))
    ≡ string_bytes l.fn.out ++ pieces_after l.palette Plain
    (piece l.fn.style l.fn.sign ∷ drawn_pieces (map seen_part l.parts))
