use Rattle.std.proofs.Common.{◌≡◌, ◌++◌, drop, map, string_bytes}
use Rattle.drawn_edits.specs.EditedLines.{seen_part}
use Rattle.drawn_edits.specs.Helps.{plus_signs}
use Rattle.drawn_edits.proofs.changes.put_plus_signs.Given as goal

-- The text added, and then the rest of it, is all.
abbrev pub invariant-loop-part : goal.invariant-loop-part
invariant-loop-part l = string_bytes l.out
    ++ plus_signs l.palette l.gap (map seen_part (drop l.part-index l.parts))
    ≡ string_bytes l.fn.out ++ plus_signs l.palette 0 (map seen_part l.parts)
