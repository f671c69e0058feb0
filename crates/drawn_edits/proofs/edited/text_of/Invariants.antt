use Rattle.std.proofs.Common.{◌≡◌, ◌++◌, drop, map, string_bytes}
use Rattle.drawn_edits.specs.EditedLines.{seen_line, text_of}
use Rattle.drawn_edits.proofs.edited.text_of.Given as goal

-- The text added, and then the rest of it, is all.
abbrev pub invariant-loop-line : goal.invariant-loop-line
invariant-loop-line l = string_bytes l.text ++ text_of (map seen_line (drop l.line-index l.lines))
    ≡ text_of (map seen_line l.lines)
