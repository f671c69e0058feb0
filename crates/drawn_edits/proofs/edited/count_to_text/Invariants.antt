use Rattle.std.proofs.Common.{◌≡◌, drop, map}
use Rattle.drawn_edits.specs.EditedLines.{count_to_text, seen_line}
use Rattle.drawn_edits.proofs.edited.count_to_text.Given as goal

-- The answer for the rest is the answer for all.
abbrev pub invariant-loop-index : goal.invariant-loop-index
invariant-loop-index l = count_to_text l.index l.count (map seen_line (drop l.index l.lines))
    ≡ count_to_text 0 0 (map seen_line l.lines)
