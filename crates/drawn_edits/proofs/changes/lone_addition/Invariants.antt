use Rattle.std.proofs.Common.{◌≡◌, drop, map}
use Rattle.drawn_edits.specs.EditedLines.{seen_part}
use Rattle.drawn_edits.specs.Helps.{lone_addition}
use Rattle.drawn_edits.proofs.changes.lone_addition.Given as goal

-- The answer for the rest is the answer for all.
abbrev pub invariant-loop-index : goal.invariant-loop-index
invariant-loop-index l = lone_addition (map seen_part (drop l.index l.parts))
    ≡ lone_addition (map seen_part l.parts)
