use Rattle.std.proofs.Common.{◌≡◌, ◌++◌, drop, map}
use Rattle.rustc_parse_format.specs.Views.{pair}
use Rattle.drawn_faults.specs.Diagnostics.{shown_label}
use Rattle.drawn_labels.specs.Labels.{seen_label}
use Rattle.drawn_lines.specs.Places.{seen_picture}
use Rattle.drawn_faults.proofs.notes.shown_labels.Given as goal

-- The elements made so far, and then those that are left, are all.
abbrev pub invariant-loop-span : goal.invariant-loop-span
invariant-loop-span l = map seen_label l.list.items
    ++ map (shown_label (seen_picture l.picture)) (map pair (drop l.span-index l.spans))
    ≡ map (shown_label (seen_picture l.picture)) (map pair l.spans)
