use Rattle.std.proofs.Common.{◌≡◌, ◌++◌, [], length, map}
use Rattle.rustc_parse_format.specs.Views.{seen_piece}
use Rattle.text_faults.specs.Views.{seen_label}
use Rattle.text_faults.specs.Spots.{primary}
use Rattle.call_faults.specs.Spots.{reference_spot}
use Rattle.call_faults.proofs.missing_labels.push_missing.Given as goal

-- What is added, and then the labels of what is left, is all.
abbrev pub invariant-loop-first : goal.invariant-loop-first
invariant-loop-first l = map seen_label l.labels.items
    ++ map (λ m. primary (reference_spot (map seen_piece l.pieces) m.reference) []) l.rest
    ≡ map seen_label l.fn.labels.items
    ++ map (λ m. primary (reference_spot (map seen_piece l.pieces) m.reference) []) l.references

abbrev pub decreases-loop-first : goal.decreases-loop-first
decreases-loop-first l = length l.rest
