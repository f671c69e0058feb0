use Rattle.std.proofs.Common.{◌≡◌, ◌++◌, length, map}
use Rattle.call_faults.specs.Labels.{named_text}
use Rattle.text_faults.specs.Views.{seen_label}
use Rattle.text_faults.specs.Spots.{secondary}
use Rattle.text_faults.specs.declared.spots.Spot.TheVariants.{Argument as WholeArgument}
use Rattle.call_faults.proofs.labels.push_named.Given as goal

-- What is added, and then the labels of what is left, is all.
abbrev pub invariant-loop-index : goal.invariant-loop-index
invariant-loop-index l = map seen_label l.labels.items
    ++ map (λ n. secondary (WholeArgument n) named_text) l.rest
    ≡ map seen_label l.fn.labels.items
    ++ map (λ n. secondary (WholeArgument n) named_text) l.named_arguments

abbrev pub decreases-loop-index : goal.decreases-loop-index
decreases-loop-index l = length l.rest
