use Rattle.std.proofs.Common.{◌≡◌, ◌<◌, ◌^◌, drop, map}
use Rattle.drawn_labels.specs.Labels.{seen_label}
use Rattle.drawn_labels.specs.Margins.{reach_on}
use Rattle.drawn_labels.proofs.margin.reach_on.Given as goal

-- The reach so far and that of the labels that are left are the whole reach.
abbrev pub invariant-loop-label : goal.invariant-loop-label
invariant-loop-label l = record {
  whole : reach_on l.source l.reach (map seen_label (drop l.label-index l.labels))
      ≡ reach_on l.source l.fn.first (map seen_label l.labels);
  to : l.reach.end < 2 ^ 62;
  end : l.reach.text_end < 2 ^ 63;
}
