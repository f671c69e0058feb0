-- The ids and the titles of faults, in rustc's words, as bytes.
use Rattle.std.specs.Prelude.{ℕ, ◌++◌, List, [], ◌∷◌, Option, Some, None, codes, decimal}
use Rattle.std.specs.Prelude.{unwrap_or}
use Rattle.std.specs.List.{slice_get}
use Rattle.rustc_parse_format.specs.Characters.{Text}
use Rattle.rustc_parse_format.specs.FaultIds.{fault_id}
use Rattle.rustc_parse_format.specs.Faults.{message}
use Rattle.text_faults.specs.Words.{quoted_name}
use Rattle.asm_faults.specs.AsmFaults.{AsmFault, PositionalAfter, RepeatedName, RegisterName}
use Rattle.asm_faults.specs.AsmFaults.{WrongIndex, MissingName, LongModifier, TemplateFault}
use Rattle.asm_faults.specs.AsmFaults.{UnusedOperands}
use Rattle.asm_faults.specs.Operands.{Operand, Named, Register, Unnamed}

-- The id of a fault. A fault of a template has its own.
unfoldable pub asm_id : AsmFault → List ℕ
asm_id (PositionalAfter i js) = codes "operand-order"
asm_id (RepeatedName i f) = codes "repeated-name"
asm_id (RegisterName i) = codes "register-name"
asm_id (WrongIndex s i n) = codes "wrong-operand"
asm_id (MissingName s w) = codes "missing-name"
asm_id (LongModifier s) = codes "long-modifier"
asm_id (TemplateFault k f) = fault_id f
asm_id (UnusedOperands is) = codes "unused-argument"

-- The name of an operand, if it has one and no register of its own.
abbrev pub given_name : Option Operand → Option Text
given_name None = None
given_name (Some Unnamed) = None
given_name (Some (Named w)) = Some w
given_name (Some (Register b)) = None

-- The name of an operand, or an empty text if it has none.
abbrev pub name_of : Option Operand → Text
name_of o = unwrap_or (given_name o) []

-- The words for an operand that is not used.
abbrev pub never_used : Option Operand → List ℕ
never_used None = codes "argument never used"
never_used (Some Unnamed) = codes "argument never used"
never_used (Some (Named w)) = codes "named argument never used"
never_used (Some (Register b)) = codes "argument never used"

-- The title of operands that are not used.
abbrev pub unused_title : List Operand → List ℕ → List ℕ
unused_title ss [] = codes "multiple unused asm arguments"
unused_title ss (i ∷ []) = never_used (slice_get ss i)
unused_title ss (i ∷ j ∷ is) = codes "multiple unused asm arguments"

-- The title of a fault of a call with the operands ss, as placeholders refer to them.
unfoldable pub title : List Operand → AsmFault → List ℕ
title ss (PositionalAfter i js) =
    codes "positional arguments cannot follow named arguments or explicit register arguments"
title ss (RepeatedName i f) =
    codes "duplicate argument named " ++ quoted_name (name_of (slice_get ss f))
title ss (RegisterName i) = codes "explicit register arguments cannot have names"
title ss (WrongIndex s i n) = codes "invalid reference to argument at index " ++ decimal i
title ss (MissingName s w) = codes "there is no argument named " ++ quoted_name w
title ss (LongModifier s) = codes "asm template modifier must be a single character"
title ss (TemplateFault k f) = codes "invalid asm template string: " ++ (message f).description
title ss (UnusedOperands is) = unused_title ss is
