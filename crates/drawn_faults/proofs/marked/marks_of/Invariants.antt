use Rattle.std.proofs.Common.{◌≡◌, ◌++◌, drop, map}
use Rattle.drawn_labels.specs.Labels.{mark_in, seen_label}
use Rattle.drawn_lines.specs.Frames.{seen_frame}
use Rattle.drawn_labels.specs.Rows.{seen_mark}
use Rattle.drawn_faults.proofs.marked.marks_of.Given as goal

-- The elements made so far, and then those that are left, are all.
abbrev pub invariant-loop-label : goal.invariant-loop-label
invariant-loop-label l = map seen_mark l.list.items
    ++ map (mark_in (seen_frame l.frame)) (map seen_label (drop l.label-index l.labels))
    ≡ map (mark_in (seen_frame l.frame)) (map seen_label l.labels)
