use Rattle.std.proofs.Common.{◌≡◌, ◌≤◌, ◌+◌, drop, map}
use Rattle.asm_faults.specs.Operands.{count_unnamed}
use Rattle.asm_faults.specs.Views.{seen_operand}
use Rattle.asm_faults.proofs.operands.count_unnamed.Given as goal

-- The count so far, and that of what is left, is the count of all.
abbrev pub invariant-loop-operand : goal.invariant-loop-operand
invariant-loop-operand l = record {
  few : l.count ≤ l.operand-index;
  all : l.count + count_unnamed (map seen_operand (drop l.operand-index l.operands))
      ≡ count_unnamed (map seen_operand l.operands);
}
