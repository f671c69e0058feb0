use Rattle.std.proofs.Common.{◌≡◌, ◌++◌, drop, map, string_bytes}
use Rattle.drawn_edits.specs.EditedLines.{seen_part}
use Rattle.drawn_lines.specs.Painting.{plain_text}
use Rattle.drawn_edits.proofs.edited.put_text.Given as goal

-- The text added, and then the rest of it, is all.
abbrev pub invariant-loop-part : goal.invariant-loop-part
invariant-loop-part l = string_bytes l.out
    ++ plain_text (map seen_part (drop l.part-index l.parts))
    ≡ string_bytes l.fn.out ++ plain_text (map seen_part l.parts)
