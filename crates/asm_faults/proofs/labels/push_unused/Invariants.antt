use Rattle.std.proofs.Common.{◌≡◌, ◌++◌, length, map}
use Rattle.asm_faults.specs.Labels.{unused_labels}
use Rattle.asm_faults.specs.Views.{seen_label, seen_operand}
use Rattle.asm_faults.proofs.labels.push_unused.Given as goal

-- What is added, and then the labels of what is left, is all.
abbrev pub invariant-loop-index : goal.invariant-loop-index
invariant-loop-index l = map seen_label l.labels.items
    ++ unused_labels (map seen_operand l.operands) l.rest
    ≡ map seen_label l.fn.labels.items
    ++ unused_labels (map seen_operand l.operands) l.unused_indices

abbrev pub decreases-loop-index : goal.decreases-loop-index
decreases-loop-index l = length l.rest
