-- The findings of the faults of a call of a macro for inline assembly.
use Rattle.std.specs.Prelude.{◌≡◌, ℕ, Bool, true, false, List, [], ◌∷◌, Option, Some, None, IfSome}
use Rattle.std.specs.Prelude.{filter, length, map, option_map, string_bytes}
use Rattle.asm_faults.specs.AsmFaults.{AsmFault, PositionalAfter, RepeatedName, RegisterName}
use Rattle.asm_faults.specs.AsmFaults.{WrongIndex, MissingName, LongModifier, TemplateFault}
use Rattle.asm_faults.specs.AsmFaults.{UnusedOperands}
use Rattle.asm_faults.specs.Labels.{labels}
use Rattle.asm_faults.specs.Notes.{help, notes}
use Rattle.asm_faults.specs.Operands.{Operand}
use Rattle.asm_faults.specs.Words.{asm_id, title}
use Rattle.asm_faults.specs.declared.faults.AsmSpot.{AsmSpot}
use Rattle.source_report.specs.declared.report.Finding.{Finding}

-- How many places a note shows.
abbrev pub shown_count : Option AsmSpot → ℕ
shown_count None = 0
shown_count (Some s) = 1

-- The finding says what the fault is: its texts are those of the fault in a call with the operands
-- ss, as placeholders refer to them.
pub record TellsAsm (ss : List Operand) (f : AsmFault) (x : Finding) : Type 0 where
  pub is_warning : x.is_warning ≡ false
  pub id : x.id.now ≡ asm_id f
  pub title : string_bytes x.title ≡ title ss f
  pub are_primary : map (λ l. l.is_primary) x.labels.items ≡ map (λ l. l.is_primary) (labels ss f)
  pub label_texts : map (λ l. string_bytes l.text) x.labels.items ≡ map (λ l. l.text) (labels ss f)
  pub note_texts : map (λ n. string_bytes n.text) x.notes.items ≡ map (λ n. n.text) (notes ss f)
  pub shown_counts : map (λ n. length n.ranges.items) x.notes.items
      ≡ map (λ n. shown_count n.spot) (notes ss f)
  pub help_text : option_map (λ h. string_bytes h.text) x.help
      ≡ option_map (λ n. n.text) (help ss f)
  pub no_edits : IfSome x.help (λ h. h.edits.items ≡ [])

-- These findings say what these faults are, one for each.
abbrev pub TellAllAsm : List Operand → List AsmFault → List Finding → Type 0
TellAllAsm ss [] [] = Unit {0}
TellAllAsm ss [] (x ∷ xs) = ⊥
TellAllAsm ss (f ∷ fs) [] = ⊥
TellAllAsm ss (f ∷ fs) (x ∷ xs) = TellsAsm ss f x × TellAllAsm ss fs xs

-- The fault is one of a template.
abbrev pub is_template_fault : AsmFault → Bool
is_template_fault (PositionalAfter i js) = false
is_template_fault (RepeatedName i f) = false
is_template_fault (RegisterName i) = false
is_template_fault (WrongIndex s i n) = false
is_template_fault (MissingName s w) = false
is_template_fault (LongModifier s) = false
is_template_fault (TemplateFault k f) = true
is_template_fault (UnusedOperands is) = false

-- The faults that count where the operands are known, and where they are not.
abbrev pub counted_asm : Bool → List AsmFault → List AsmFault
counted_asm true fs = fs
counted_asm false fs = filter is_template_fault fs
