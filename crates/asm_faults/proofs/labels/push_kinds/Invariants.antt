use Rattle.std.proofs.Common.{◌≡◌, ◌++◌, length, map}
use Rattle.asm_faults.specs.Labels.{kinds_at}
use Rattle.asm_faults.specs.Views.{seen_label, seen_operand}
use Rattle.asm_faults.proofs.labels.push_kinds.Given as goal

-- The labels so far, and then those of the rest, are all.
abbrev pub invariant-loop-index : goal.invariant-loop-index
invariant-loop-index l = map seen_label l.labels.items
    ++ kinds_at (map seen_operand l.operands) l.rest
    ≡ map seen_label l.fn.labels.items ++ kinds_at (map seen_operand l.operands) l.indices

abbrev pub decreases-loop-index : goal.decreases-loop-index
decreases-loop-index l = length l.rest
