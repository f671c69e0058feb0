use Rattle.std.proofs.Common.{◌≡◌, drop, map}
use Rattle.drawn_edits.specs.EditedLines.{seen_part}
use Rattle.drawn_edits.specs.Helps.{have_bytes}
use Rattle.drawn_edits.proofs.changes.have_bytes.Given as goal

-- The answer for the rest is the answer for all.
abbrev pub invariant-loop-part : goal.invariant-loop-part
invariant-loop-part l = have_bytes l.countdown (map seen_part (drop l.part-index l.parts))
    ≡ have_bytes l.fn.count (map seen_part l.parts)
