use Rattle.std.proofs.Common.{◌≡◌, ℕ, List, false, get_or, map, length, take}
use Rattle.std.specs.List.{list_any}
use Rattle.asm_faults.specs.Comparison.{means}
use Rattle.asm_faults.specs.Operands.{Operand}
use Rattle.asm_faults.specs.Views.{Holds, seen_lookup}
use Rattle.asm_faults.proofs.comparison.marks.Given as goal

-- The operands that the lookups so far mean are marked.
abbrev pub invariant-loop-lookup : goal.invariant-loop-lookup
invariant-loop-lookup l = record {
  many : length l.marks.items ≡ length l.operands.slots.items;
  marked : (ss : List Operand) → Holds ss l.operands → (i : ℕ) → get_or l.marks.items i false
      ≡ list_any (means ss i) (map seen_lookup (take l.lookup-index l.lookups));
}
