use Rattle.std.proofs.Common.{◌≡◌, ◌<◌, ◌^◌, IfSome, None, drop, map}
use Rattle.drawn_faults.specs.Diagnostics.{first_of}
use Rattle.drawn_labels.specs.Labels.{seen_label}
use Rattle.drawn_faults.proofs.marked.first_spot.Given as goal

-- The answer for the rest is the answer for all.
abbrev pub invariant-loop-label : goal.invariant-loop-label
invariant-loop-label l = record {
  same : first_of l.spot (map seen_label (drop l.label-index l.labels))
      ≡ first_of None (map seen_label l.labels);
  line : IfSome l.spot (λ s. s.line < 2 ^ 59);
  chars : IfSome l.spot (λ s. s.chars < 2 ^ 59);
}
