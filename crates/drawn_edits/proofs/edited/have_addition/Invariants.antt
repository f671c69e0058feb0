use Rattle.std.proofs.Common.{◌≡◌, drop, map}
use Rattle.std.specs.List.{list_any}
use Rattle.drawn_edits.specs.EditedLines.{is_added, seen_part}
use Rattle.drawn_edits.proofs.edited.have_addition.Given as goal

-- The answer for the rest is the answer for all.
abbrev pub invariant-loop-part : goal.invariant-loop-part
invariant-loop-part l = list_any is_added (map seen_part (drop l.part-index l.parts))
    ≡ list_any is_added (map seen_part l.parts)
