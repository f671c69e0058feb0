-- The labels of faults, in rustc's words and order, as bytes.
use Rattle.std.specs.Prelude.{ℕ, ◌==◌, ◌&&◌, ◌++◌, Bool, true, false, List, [], ◌∷◌, Option, Some}
use Rattle.std.specs.Prelude.{None, codes, map}
use Rattle.std.specs.List.{slice_get}
use Rattle.rustc_parse_format.specs.Faults.{Message, message}
use Rattle.rustc_parse_format.specs.World.{Place}
use Rattle.asm_faults.specs.AsmFaults.{AsmFault, PositionalAfter, RepeatedName, RegisterName}
use Rattle.asm_faults.specs.AsmFaults.{WrongIndex, MissingName, LongModifier, TemplateFault}
use Rattle.asm_faults.specs.AsmFaults.{UnusedOperands}
use Rattle.asm_faults.specs.Lookups.{spot_of}
use Rattle.asm_faults.specs.Operands.{Operand, Named, Register, Unnamed}
use Rattle.asm_faults.specs.Words.{never_used}
use Rattle.asm_faults.specs.declared.faults.AsmSpot.{AsmSpot}
use Rattle.asm_faults.specs.declared.faults.AsmSpot.TheVariants.{Operand as WholeOperand}

-- A label: where it is, whether the fault is about that place, and its text.
pub record Label : Type 0 where
  pub spot : AsmSpot
  pub is_primary : Bool
  pub text : List ℕ

-- A label of these parts.
abbrev pub label : AsmSpot → Bool → List ℕ → Label
label s b t = record { spot = s; is_primary = b; text = t }

-- A label of a place that the fault is about.
abbrev pub primary : AsmSpot → List ℕ → Label
primary s t = label s true t

-- A label of another place.
abbrev pub secondary : AsmSpot → List ℕ → Label
secondary s t = label s false t

-- The label of an operand of the index i that an index does not mean.
abbrev pub kind_label : ℕ → Operand → List Label
kind_label i Unnamed = []
kind_label i (Named w) = secondary (WholeOperand i) (codes "named argument") ∷ []
kind_label i (Register b) = secondary (WholeOperand i) (codes "explicit register argument") ∷ []

-- The label of the operand of the index i, if there is one that an index does not mean.
abbrev pub kind_at : ℕ → Option Operand → List Label
kind_at i None = []
kind_at i (Some o) = kind_label i o

-- The labels of the operands of these indices.
abbrev pub kinds_at : List Operand → List ℕ → List Label
kinds_at ss [] = []
kinds_at ss (i ∷ is) = kind_at i (slice_get ss i) ++ kinds_at ss is

-- The labels of the operand i without a name, which stands after these others.
abbrev pub late_labels : List Operand → ℕ → List ℕ → List Label
late_labels ss i js = primary (WholeOperand i) (codes "positional argument") ∷ kinds_at ss js

-- The labels of a placeholder there that refers to an operand by a wrong index, and of this
-- operand.
abbrev pub wrong_labels : AsmSpot → ℕ → Option Operand → List Label
wrong_labels s i o = primary s (codes "from here") ∷ kind_at i o

-- The label of a second range of an error of the template k whose range is s. It is primary if it
-- has that range.
abbrev pub second_labels : ℕ → Place → Option (List ℕ × Place) → List Label
second_labels k s None = []
second_labels k s (Some x) =
    label (spot_of k (Some (x.1))) ((x.1.0 == s.0) && (x.1.1 == s.1)) x.0 ∷ []

-- The labels of an error of the template k.
abbrev pub text_labels : ℕ → Message Place → List Label
text_labels k m = primary (spot_of k (Some m.span)) (m.label ++ codes " in asm template string")
    ∷ second_labels k m.span m.second

-- The labels of operands that are not used.
abbrev pub unused_labels : List Operand → List ℕ → List Label
unused_labels ss is = map (λ i. primary (WholeOperand i) (never_used (slice_get ss i))) is

-- The labels of a fault of a call with the operands ss, as placeholders refer to them.
unfoldable pub labels : List Operand → AsmFault → List Label
labels ss (PositionalAfter i js) = late_labels ss i js
labels ss (RepeatedName i f) = primary (WholeOperand i) (codes "duplicate argument")
    ∷ secondary (WholeOperand f) (codes "previously here") ∷ []
labels ss (RegisterName i) = primary (WholeOperand i) [] ∷ []
labels ss (WrongIndex s i n) = wrong_labels s i (slice_get ss i)
labels ss (MissingName s w) = primary s [] ∷ []
labels ss (LongModifier s) = primary s [] ∷ []
labels ss (TemplateFault k f) = text_labels k (message f)
labels ss (UnusedOperands is) = unused_labels ss is
