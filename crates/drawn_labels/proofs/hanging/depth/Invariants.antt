use Rattle.std.proofs.Common.{◌≡◌, drop, map}
use Rattle.drawn_labels.specs.Marks.{depth, seen_hung}
use Rattle.drawn_labels.proofs.hanging.depth.Given as goal

-- The answer for the rest is the answer for all.
abbrev pub invariant-loop-first : goal.invariant-loop-first
invariant-loop-first l = depth l.max_depth (map seen_hung (drop l.first-index l.labels))
    ≡ depth 0 (map seen_hung l.labels)
