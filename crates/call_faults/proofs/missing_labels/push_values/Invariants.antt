use Rattle.std.proofs.Common.{◌≡◌, ◌++◌, [], length, map}
use Rattle.text_faults.specs.Views.{seen_label}
use Rattle.text_faults.specs.Spots.{secondary}
use Rattle.text_faults.specs.declared.spots.Spot.TheVariants.{Value}
use Rattle.call_faults.proofs.missing_labels.push_values.Given as goal

-- What is added, and then the labels of what is left, is all.
abbrev pub invariant-loop-index : goal.invariant-loop-index
invariant-loop-index l = map seen_label l.labels.items ++ map (λ i. secondary (Value i) []) l.rest
    ≡ map seen_label l.fn.labels.items ++ map (λ i. secondary (Value i) []) l.indices

abbrev pub decreases-loop-index : goal.decreases-loop-index
decreases-loop-index l = length l.rest
