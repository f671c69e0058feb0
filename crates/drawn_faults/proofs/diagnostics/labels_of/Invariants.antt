use Rattle.std.proofs.Common.{◌≡◌, ◌++◌, drop, map}
use Rattle.drawn_faults.specs.Diagnostics.{label_of}
use Rattle.drawn_labels.specs.Labels.{seen_label}
use Rattle.drawn_lines.specs.Places.{seen_picture}
use Rattle.drawn_faults.specs.SeenDiagnostics.{seen_source_label}
use Rattle.drawn_faults.proofs.diagnostics.labels_of.Given as goal

-- The elements made so far, and then those that are left, are all.
abbrev pub invariant-loop-label : goal.invariant-loop-label
invariant-loop-label l = map seen_label l.list.items
    ++ map (label_of (seen_picture l.picture)) (map seen_source_label (drop l.label-index l.labels))
    ≡ map (label_of (seen_picture l.picture)) (map seen_source_label l.labels)
