use Rattle.std.proofs.Common.{◌≡◌, ◌<◌, ◌++◌, drop, length, map}
use Rattle.std.specs.Prelude.{◌||◌}
use Rattle.std.specs.List.{AllByRecursion}
use Rattle.asm_faults.specs.Views.{seen_operand}
use Rattle.asm_lint.specs.Assembly.{are_raw, is_unknown, operands}
use Rattle.asm_lint.proofs.assembly.operands_of.Given as goal

-- The operands so far, and then those among the arguments that are left, are all.
abbrev pub invariant-loop-argument : goal.invariant-loop-argument
invariant-loop-argument l = record {
  lie : AllByRecursion (λ a. a.start < length l.part) (drop l.argument-index l.arguments);
  list : map seen_operand l.operands.list.items
      ++ operands l.part (drop l.argument-index l.arguments)
      ≡ operands l.part l.arguments;
  raw : (l.operands.are_raw || are_raw l.part (drop l.argument-index l.arguments))
      ≡ are_raw l.part l.arguments;
  unknown : (l.operands.is_unknown || is_unknown l.part (drop l.argument-index l.arguments))
      ≡ is_unknown l.part l.arguments;
}
