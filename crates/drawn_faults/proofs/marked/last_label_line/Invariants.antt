use Rattle.std.proofs.Common.{◌≡◌, ◌<◌, ◌^◌, drop, map}
use Rattle.drawn_faults.specs.Diagnostics.{last_label_line}
use Rattle.drawn_labels.specs.Labels.{seen_label}
use Rattle.drawn_faults.proofs.marked.last_label_line.Given as goal

-- The answer for the rest is the answer for all.
abbrev pub invariant-loop-label : goal.invariant-loop-label
invariant-loop-label l = record {
  same : last_label_line l.line (map seen_label (drop l.label-index l.labels))
      ≡ last_label_line l.last (map seen_label l.labels);
  small : l.line < 2 ^ 59;
}
