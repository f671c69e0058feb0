use Rattle.std.proofs.Common.{◌≡◌, drop, map}
use Rattle.drawn_edits.specs.EditedLines.{are_blank, seen_part}
use Rattle.drawn_edits.proofs.edited.are_blank.Given as goal

-- The answer for the rest is the answer for all.
abbrev pub invariant-loop-part : goal.invariant-loop-part
invariant-loop-part l = are_blank (map seen_part (drop l.part-index l.parts))
    ≡ are_blank (map seen_part l.parts)
