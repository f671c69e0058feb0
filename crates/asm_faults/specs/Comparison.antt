-- The faults between the placeholders of templates and the operands of their call.
use Rattle.std.specs.Prelude.{ℕ, suc, Bool, true, false, ◌==◌, ◌&&◌, ◌||◌, ◌++◌, if◌then◌else◌}
use Rattle.std.specs.Prelude.{List, [], ◌∷◌, Option, Some, None, is_some}
use Rattle.std.specs.Option.{option_map_or}
use Rattle.std.specs.List.{list_any, slice_get}
use Rattle.asm_faults.specs.AsmFaults.{AsmFault, LongModifier, MissingName, UnusedOperands}
use Rattle.asm_faults.specs.AsmFaults.{WrongIndex}
use Rattle.asm_faults.specs.Lookups.{Lookup, ByIndex, ByName, Long}
use Rattle.asm_faults.specs.Operands.{Operand, Named, Register, Unnamed, index_of, is_register}

-- There is such an operand, and it has neither a name nor a register of its own.
abbrev pub is_unnamed : Option Operand → Bool
is_unnamed None = false
is_unnamed (Some Unnamed) = true
is_unnamed (Some (Named w)) = false
is_unnamed (Some (Register b)) = false

-- The lookup means the operand of the index i. An index counts through all operands, but means only
-- one that has neither a name nor a register of its own.
abbrev pub means : List Operand → ℕ → Lookup → Bool
means ss i (ByIndex s n) = is_unnamed (slice_get ss n) && (i == n)
means ss i (ByName s w) = option_map_or (λ j. i == j) (index_of ss w) false
means ss i (Long s) = false

-- The fault of a lookup, if there is one, where so many operands are unnamed.
abbrev pub fault_of : List Operand → ℕ → Lookup → Option AsmFault
fault_of ss n (ByIndex s i) = if is_unnamed (slice_get ss i) then None else Some (WrongIndex s i n)
fault_of ss n (ByName s w) = if is_some (index_of ss w) then None else Some (MissingName s w)
fault_of ss n (Long s) = Some (LongModifier s)

-- The index i of an operand, if it is not used and has no register of its own.
abbrev pub unused_one : (ℕ → Bool) → ℕ → Operand → List ℕ
unused_one used i s = if is_register s || used i then [] else i ∷ []

-- The indices of those of the operands ss, of which the first has the index i, that are not used
-- and have no register of their own.
abbrev pub unused_from : (ℕ → Bool) → ℕ → List Operand → List ℕ
unused_from used i [] = []
unused_from used i (s ∷ ss) = unused_one used i s ++ unused_from used (suc i) ss

-- The indices of the operands that no lookup means and that have no register of their own.
abbrev pub unused_operands : List Operand → List Lookup → List ℕ
unused_operands ss ls = unused_from (λ i. list_any (means ss i) ls) 0 ss

-- The fault of these operands that no lookup means.
abbrev pub unused_faults : List ℕ → List AsmFault
unused_faults [] = []
unused_faults (i ∷ is) = UnusedOperands (i ∷ is) ∷ []
