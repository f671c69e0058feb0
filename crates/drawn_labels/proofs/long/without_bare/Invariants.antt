use Rattle.std.proofs.Common.{◌≡◌, ◌≤◌}
use Rattle.drawn_lines.specs.Frames.{seen_frame}
use Rattle.drawn_labels.specs.Long.{without_bare}
use Rattle.drawn_labels.proofs.long.without_bare.Given as goal

-- The answer for the lines that are left is the answer for all.
abbrev pub invariant-loop-lines : goal.invariant-loop-lines
invariant-loop-lines l = record {
  same : without_bare (seen_frame l.frame) l.first l.lines
      ≡ without_bare (seen_frame l.frame) l.first l.fn.count;
  few : l.lines ≤ l.fn.count;
}

abbrev pub decreases-loop-lines : goal.decreases-loop-lines
decreases-loop-lines l = l.lines
