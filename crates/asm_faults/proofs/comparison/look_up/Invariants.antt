use Rattle.std.proofs.Common.{◌≡◌, ◌++◌, List, drop, map}
use Rattle.std.specs.List.{filter_map}
use Rattle.asm_faults.specs.Comparison.{fault_of}
use Rattle.asm_faults.specs.Operands.{Operand, count_unnamed}
use Rattle.asm_faults.specs.Views.{Holds, seen_fault, seen_lookup}
use Rattle.asm_faults.proofs.comparison.look_up.Given as goal

-- The faults so far, and then those of the lookups that are left, are all.
abbrev pub invariant-loop-lookup : goal.invariant-loop-lookup
invariant-loop-lookup l = (ss : List Operand) → Holds ss l.operands
    → map seen_fault l.faults.items
    ++ filter_map (fault_of ss (count_unnamed ss))
    (map seen_lookup (drop l.lookup-index l.lookups))
    ≡ map seen_fault l.fn.faults.items
    ++ filter_map (fault_of ss (count_unnamed ss)) (map seen_lookup l.lookups)
