use Rattle.std.proofs.Common.{◌≡◌, ◌++◌, length, map, string_bytes}
use Rattle.asm_faults.specs.Notes.{placeholders}
use Rattle.asm_faults.specs.Views.{seen_operand}
use Rattle.asm_faults.proofs.notes.put_placeholders.Given as goal

-- What is written, and then what is left, is all.
abbrev pub invariant-loop-index : goal.invariant-loop-index
invariant-loop-index l = string_bytes l.out ++ placeholders (map seen_operand l.operands) l.rest
    ≡ string_bytes l.fn.out ++ placeholders (map seen_operand l.operands) l.indices

abbrev pub decreases-loop-index : goal.decreases-loop-index
decreases-loop-index l = length l.rest
