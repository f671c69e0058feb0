use Rattle.std.proofs.Common.{◌≡◌, ◌++◌, [], map, drop, length}
use Rattle.asm_faults.specs.Operands.{faults_from, slots_after}
use Rattle.asm_faults.specs.Views.{Holds, seen_fault, seen_operand}
use Rattle.asm_faults.proofs.operands.operands_of.Given as goal

-- What was found, and then what is found of the operands that are left, is all; and so it is with
-- the operands as placeholders refer to them.
abbrev pub invariant-loop-index : goal.invariant-loop-index
invariant-loop-index l = record {
  holds : Holds (map seen_operand l.operands.slots.items) l.operands;
  many : length l.operands.slots.items ≡ l.index;
  outcome : map seen_fault l.faults.items ++ faults_from (map seen_operand l.operands.slots.items)
      l.index (map seen_operand (drop l.index l.list))
      ≡ map seen_fault l.fn.faults.items ++ faults_from [] 0 (map seen_operand l.list);
  held : slots_after (map seen_operand l.operands.slots.items)
      (map seen_operand (drop l.index l.list)) ≡ slots_after [] (map seen_operand l.list);
}
