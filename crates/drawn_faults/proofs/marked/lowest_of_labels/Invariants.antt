use Rattle.std.proofs.Common.{◌≡◌, ◌<◌, ◌^◌, IfSome, None, drop, map}
use Rattle.drawn_faults.specs.Diagnostics.{lowest_of_labels}
use Rattle.drawn_labels.specs.Labels.{seen_label}
use Rattle.drawn_lines.specs.Places.{seen_picture}
use Rattle.drawn_faults.proofs.marked.lowest_of_labels.Given as goal

-- The answer for the rest is the answer for all.
abbrev pub invariant-loop-label : goal.invariant-loop-label
invariant-loop-label l = record {
  same : lowest_of_labels (seen_picture l.picture) l.least
      (map seen_label (drop l.label-index l.labels))
      ≡ lowest_of_labels (seen_picture l.picture) None (map seen_label l.labels);
  small : IfSome l.least (λ k. k < 2 ^ 62);
}
