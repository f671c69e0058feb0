use Rattle.std.proofs.Common.{◌≡◌, drop, map}
use Rattle.drawn_edits.specs.EditedLines.{do_remove, seen_part}
use Rattle.drawn_edits.proofs.edited.do_remove.Given as goal

-- The answer for the rest is the answer for all.
abbrev pub invariant-loop-part : goal.invariant-loop-part
invariant-loop-part l = do_remove (map seen_part (drop l.part-index l.parts))
    ≡ do_remove (map seen_part l.parts)
