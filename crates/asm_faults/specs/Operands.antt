-- The operands of a call, and the faults of their list alone. The public rule is in the Rust
-- Reference, on inline assembly: operands by position stand in front of those by name, and these in
-- front of those with a register of their own, which have no names.
use Rattle.std.specs.Prelude.{ℕ, suc, ◌++◌, Bool, true, false, if◌then◌else◌}
use Rattle.std.specs.Prelude.{List, [], ◌∷◌, Option, Some, None, is_some, take}
use Rattle.std.specs.Str.{bytes_eq}
use Rattle.rustc_parse_format.specs.Characters.{Text}
use Rattle.asm_faults.specs.AsmFaults.{AsmFault, PositionalAfter, RepeatedName, RegisterName}

-- An operand: it has neither name nor register, or this name, or a register of its own, and then a
-- name too or none.
pub data Operand : Type 0 where
  Unnamed : Operand
  Named : Text → Operand
  Register : Bool → Operand

-- The operand has a name or a register of its own.
abbrev pub is_other : Operand → Bool
is_other Unnamed = false
is_other (Named w) = true
is_other (Register b) = true

-- The operand has a name, and no register of its own.
abbrev pub is_named : Operand → Bool
is_named Unnamed = false
is_named (Named w) = true
is_named (Register b) = false

-- The operand has a register of its own.
abbrev pub is_register : Operand → Bool
is_register Unnamed = false
is_register (Named w) = false
is_register (Register b) = true

-- How many of these operands have neither a name nor a register of their own.
abbrev pub count_unnamed : List Operand → ℕ
count_unnamed [] = 0
count_unnamed (s ∷ ss) = if is_other s then count_unnamed ss else suc (count_unnamed ss)

-- The operand has this name, and no register of its own.
abbrev pub has_name : Text → Operand → Bool
has_name w Unnamed = false
has_name w (Named v) = bytes_eq w v
has_name w (Register b) = false

-- The index of the first of these operands with this name, if there is one, where the first of all
-- has the index i.
abbrev pub index_from : ℕ → List Operand → Text → Option ℕ
index_from i [] w = None
index_from i (s ∷ ss) w = if has_name w s then Some i else index_from (suc i) ss w

-- The index of the first of these operands with this name, if there is one.
abbrev pub index_of : List Operand → Text → Option ℕ
index_of ss w = index_from 0 ss w

-- An operand after those of ss, as placeholders refer to it: a name that is there counts for
-- nothing.
abbrev pub slot : List Operand → Operand → Operand
slot ss Unnamed = Unnamed
slot ss (Named w) = if is_some (index_of ss w) then Unnamed else Named w
slot ss (Register b) = Register b

-- The operands of ss, and then those of os as placeholders refer to them.
abbrev pub slots_after : List Operand → List Operand → List Operand
slots_after ss [] = ss
slots_after ss (o ∷ os) = slots_after (ss ++ slot ss o ∷ []) os

-- The fault of the operand of the index i, if the first one with its name is this one.
abbrev pub repeated_name_faults : ℕ → Option ℕ → List AsmFault
repeated_name_faults i None = []
repeated_name_faults i (Some f) = RepeatedName i f ∷ []

-- The index i, if a test holds.
abbrev pub index_if : Bool → ℕ → List ℕ
index_if b i = if b then i ∷ [] else []

-- The indices of those of these operands, of which the first has the index i, that pass a test.
abbrev pub indices_from : (Operand → Bool) → ℕ → List Operand → List ℕ
indices_from p i [] = []
indices_from p i (s ∷ ss) = index_if (p s) i ++ indices_from p (suc i) ss

-- The first sixteen of these operands that have a name, and then the first sixteen that have a
-- register of their own.
abbrev pub others_of : List Operand → List ℕ
others_of ss = take 16 (indices_from is_named 0 ss) ++ take 16 (indices_from is_register 0 ss)

-- The fault of the operand of the index i without a name, if these others stand in front of it.
abbrev pub late_faults : ℕ → List ℕ → List AsmFault
late_faults i [] = []
late_faults i (j ∷ js) = PositionalAfter i (j ∷ js) ∷ []

-- The faults of an operand of the index i after those of ss.
abbrev pub faults_of : List Operand → ℕ → Operand → List AsmFault
faults_of ss i Unnamed = late_faults i (others_of ss)
faults_of ss i (Named w) = repeated_name_faults i (index_of ss w)
faults_of ss i (Register b) = if b then RegisterName i ∷ [] else []

-- The faults of the operands os, of which the first has the index i, after those of ss.
abbrev pub faults_from : List Operand → ℕ → List Operand → List AsmFault
faults_from ss i [] = []
faults_from ss i (o ∷ os) = faults_of ss i o ++ faults_from (ss ++ slot ss o ∷ []) (suc i) os
