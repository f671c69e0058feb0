-- The faults of a call, in the order in which rustc reports them.
use Rattle.std.specs.Prelude.{ℕ, ◌++◌, List, [], ◌∷◌, Option, Some, None}
use Rattle.std.specs.List.{filter_map}
use Rattle.asm_faults.specs.AsmFaults.{AsmFault}
use Rattle.asm_faults.specs.Comparison.{fault_of, unused_operands, unused_faults}
use Rattle.asm_faults.specs.Lookups.{Lookup}
use Rattle.asm_faults.specs.Operands.{Operand, count_unnamed, faults_from, slots_after}
use Rattle.asm_faults.specs.Templates.{Template, lookups_from, template_fault}

-- The fault of a template, which ends the work, or else that of the operands that no lookup means.
abbrev pub last_faults : List Operand → List Lookup → Option AsmFault → List AsmFault
last_faults ss ls None = unused_faults (unused_operands ss ls)
last_faults ss ls (Some f) = f ∷ []

-- The faults between the operands ss, as placeholders refer to them, and templates with these
-- lookups, of which this fault ends the work, if there is one.
abbrev pub comparison_faults : List Operand → List Lookup → Option AsmFault → List AsmFault
comparison_faults ss ls o = filter_map (fault_of ss (count_unnamed ss)) ls ++ last_faults ss ls o

-- The faults of the list of operands, and then of the templates.
abbrev pub asm_faults : List Template → List Operand → List AsmFault
asm_faults ts os = faults_from [] 0 os
    ++ comparison_faults (slots_after [] os) (lookups_from 0 0 ts) (template_fault 0 ts)
