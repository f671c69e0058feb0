use Rattle.std.proofs.Common.{◌≡◌, ◌++◌, drop, false, get_or, map}
use Rattle.asm_faults.specs.Comparison.{unused_from}
use Rattle.asm_faults.specs.Views.{seen_operand}
use Rattle.asm_faults.proofs.comparison.unmarked_operands.Given as goal

-- What was found, and then what is found of the operands that are left, is all.
abbrev pub invariant-loop-index : goal.invariant-loop-index
invariant-loop-index l = l.indices.items
    ++ unused_from (λ i. get_or l.marks i false) l.index (map seen_operand (drop l.index l.slots))
    ≡ unused_from (λ i. get_or l.marks i false) 0 (map seen_operand l.slots)
