use Rattle.std.proofs.Common.{◌≡◌, ◌+◌, ◌++◌, drop, map, string_bytes}
use Rattle.drawn_edits.specs.EditedLines.{seen_line}
use Rattle.drawn_edits.specs.Helps.{sign_rows}
use Rattle.drawn_lines.specs.Frames.{seen_frame}
use Rattle.drawn_edits.proofs.edit_rows.put_sign_rows.Given as goal

-- The text added, and then the rest of it, is all.
abbrev pub invariant-loop-index : goal.invariant-loop-index
invariant-loop-index l = string_bytes l.out
    ++ sign_rows (seen_frame l.frame) l.style l.sign (l.number + l.index)
    (map seen_line (drop l.index l.lines))
    ≡ string_bytes l.fn.out
    ++ sign_rows (seen_frame l.frame) l.style l.sign l.number (map seen_line l.lines)
