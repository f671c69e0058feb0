-- The notes and helps of faults, in rustc's words and order, as bytes.
use Rattle.std.specs.Prelude.{ℕ, ◌==◌, ◌++◌, if◌then◌else◌, List, [], ◌∷◌, Option, Some, None}
use Rattle.std.specs.Prelude.{codes, decimal, encode_utf8_all, length}
use Rattle.std.specs.List.{slice_get}
use Rattle.rustc_parse_format.specs.Characters.{Text}
use Rattle.rustc_parse_format.specs.Faults.{message}
use Rattle.asm_faults.specs.AsmFaults.{AsmFault, PositionalAfter, RepeatedName, RegisterName}
use Rattle.asm_faults.specs.AsmFaults.{WrongIndex, MissingName, LongModifier, TemplateFault}
use Rattle.asm_faults.specs.AsmFaults.{UnusedOperands}
use Rattle.asm_faults.specs.Operands.{Operand, Named, Register, Unnamed}
use Rattle.asm_faults.specs.Words.{given_name}
use Rattle.asm_faults.specs.declared.faults.AsmSpot.{AsmSpot}
use Rattle.asm_faults.specs.declared.faults.AsmSpot.TheVariants.{Operand as WholeOperand}

-- A note or a help: its text, and the place that it shows, if it shows one.
pub record Note : Type 0 where
  pub text : List ℕ
  pub spot : Option AsmSpot

-- A note or a help of these parts.
abbrev pub note : List ℕ → Option AsmSpot → Note
note t s = record { text = t; spot = s }

-- The operands that an index may mean, of which there are n: all of ss or only some.
abbrev pub noun : List Operand → ℕ → List ℕ
noun ss n = if n == length ss then codes "argument" else codes "positional argument"

-- So many operands in words.
abbrev pub count_text : ℕ → List ℕ → List ℕ
count_text n w = if n == 0 then codes "no " ++ (w ++ codes "s were given")
    else (if n == 1 then codes "there is 1 " ++ w
    else codes "there are " ++ (decimal n ++ (codes " " ++ (w ++ codes "s"))))

-- The note of an operand of the index i that an index does not mean, if there is one.
unfoldable pub kind_notes : ℕ → Option Operand → List Note
kind_notes i None = []
kind_notes i (Some Unnamed) = []
kind_notes i (Some (Named w)) =
    note (codes "named arguments cannot be referenced by position") (Some (WholeOperand i)) ∷ []
kind_notes i (Some (Register b)) =
    note (codes "explicit register arguments cannot be used in the asm template")
    (Some (WholeOperand i)) ∷ []

-- The notes of a wrong index, where an index may mean n operands.
abbrev pub wrong_notes : List Operand → ℕ → ℕ → List Note
wrong_notes ss i n = note (count_text n (noun ss n)) None
    ∷ kind_notes i (slice_get ss i)

-- The help of a wrong index, if it is that of an operand with a register of its own.
unfoldable pub wrong_help : ℕ → Option Operand → Option Note
wrong_help i None = None
wrong_help i (Some Unnamed) = None
wrong_help i (Some (Named w)) = None
wrong_help i (Some (Register b)) =
    Some (note (codes "use the register name directly in the assembly code")
    (Some (WholeOperand i)))

-- The note of an error of a template, if it has one.
abbrev pub text_notes : Option (List ℕ) → List Note
text_notes None = []
text_notes (Some t) = note t None ∷ []

-- The position of a placeholder for an operand of the index i: its name, or its index.
abbrev pub reference : ℕ → Option Text → List ℕ
reference i None = decimal i
reference i (Some w) = encode_utf8_all w

-- Placeholders of operands.
abbrev pub placeholders : List Operand → List ℕ → List ℕ
placeholders ss [] = []
placeholders ss (i ∷ is) =
    codes " {" ++ (reference i (given_name (slice_get ss i)) ++ (codes "}" ++ placeholders ss is))

-- How the help of so many operands that are not used begins.
unfoldable pub unused_start : ℕ → List ℕ
unused_start n = if n == 1
    then codes "if this argument is intentionally unused, consider using it in an asm comment: `\"/*"
    else codes "if these arguments are intentionally unused, consider using them in an asm comment: `\"/*"

-- The help of operands that are not used.
abbrev pub unused_help : List Operand → List ℕ → Note
unused_help ss is =
    note (unused_start (length is) ++ (placeholders ss is ++ codes " */\"`")) None

-- The notes of a fault of a call with the operands ss, as placeholders refer to them.
unfoldable pub notes : List Operand → AsmFault → List Note
notes ss (PositionalAfter i js) = []
notes ss (RepeatedName i f) = []
notes ss (RegisterName i) = []
notes ss (WrongIndex s i n) = wrong_notes ss i n
notes ss (MissingName s w) = []
notes ss (LongModifier s) = []
notes ss (TemplateFault k f) = text_notes (message f).note
notes ss (UnusedOperands is) = []

-- The help of a fault, if it has one.
unfoldable pub help : List Operand → AsmFault → Option Note
help ss (PositionalAfter i js) = None
help ss (RepeatedName i f) = None
help ss (RegisterName i) = None
help ss (WrongIndex s i n) = wrong_help i (slice_get ss i)
help ss (MissingName s w) = None
help ss (LongModifier s) = None
help ss (TemplateFault k f) = None
help ss (UnusedOperands is) = Some (unused_help ss is)
