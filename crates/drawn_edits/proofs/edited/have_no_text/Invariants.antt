use Rattle.std.proofs.Common.{◌≡◌, drop, map}
use Rattle.drawn_edits.specs.EditedLines.{have_no_text, seen_part}
use Rattle.drawn_edits.proofs.edited.have_no_text.Given as goal

-- The answer for the rest is the answer for all.
abbrev pub invariant-loop-part : goal.invariant-loop-part
invariant-loop-part l = have_no_text (map seen_part (drop l.part-index l.parts))
    ≡ have_no_text (map seen_part l.parts)
