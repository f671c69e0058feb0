-- The values of this crate as a contract sees them: texts as their characters, ranges as places.
use Rattle.std.specs.Prelude.{◌≡◌, ℕ, List, Option, map, option_map, string_bytes}
use Rattle.std.specs.BTreeMap.{BTreeMap, get_by}
use Rattle.std.specs.Cmp.Lexicographic.{slice_cmp}
use Rattle.std.specs.Ordering.{nat_cmp}
use Rattle.std.specs.Str.{encode_utf8_all}
use denote.Ref.{Bor}
use Rattle.rustc_parse_format.specs.Characters.{Text}
use Rattle.rustc_parse_format.specs.FaultViews.{seen_fault as seen_text_fault}
use Rattle.placeholder_check.specs.Views.{text}
use Rattle.asm_faults.specs.declared.faults.AsmFault.{AsmFault as DeclaredFault}
use Rattle.asm_faults.specs.declared.faults.AsmFault.TheVariants.{PositionalAfter as LateIn}
use Rattle.asm_faults.specs.declared.faults.AsmFault.TheVariants.{RepeatedName as RepeatedIn}
use Rattle.asm_faults.specs.declared.faults.AsmFault.TheVariants.{RegisterName as RegisterNameIn}
use Rattle.asm_faults.specs.declared.faults.AsmFault.TheVariants.{WrongIndex as WrongIn}
use Rattle.asm_faults.specs.declared.faults.AsmFault.TheVariants.{MissingName as MissingIn}
use Rattle.asm_faults.specs.declared.faults.AsmFault.TheVariants.{LongModifier as LongIn}
use Rattle.asm_faults.specs.declared.faults.AsmFault.TheVariants.{Text as TextIn}
use Rattle.asm_faults.specs.declared.faults.AsmFault.TheVariants.{UnusedOperands as UnusedIn}
use Rattle.asm_faults.specs.declared.labels.AsmLabel.{AsmLabel}
use Rattle.asm_faults.specs.declared.lookups.Lookup.{Lookup as DeclaredLookup}
use Rattle.asm_faults.specs.declared.lookups.Lookup.TheVariants.{Index as IndexIn, Name as NameIn}
use Rattle.asm_faults.specs.declared.lookups.Lookup.TheVariants.{LongModifier as LongLookupIn}
use Rattle.asm_faults.specs.declared.notes.AsmNote.{AsmNote}
use Rattle.asm_faults.specs.declared.operands.Operand.{Operand as DeclaredOperand}
use Rattle.asm_faults.specs.declared.operands.Operand.TheVariants.{Unnamed as UnnamedIn}
use Rattle.asm_faults.specs.declared.operands.Operand.TheVariants.{Named as NamedIn}
use Rattle.asm_faults.specs.declared.operands.Operand.TheVariants.{Register as RegisterIn}
use Rattle.asm_faults.specs.declared.operands.Operands.{Operands}
use Rattle.asm_faults.specs.declared.templates.Template.{Template as DeclaredTemplate}
use Rattle.asm_faults.specs.AsmFaults.{AsmFault, PositionalAfter, RepeatedName, RegisterName}
use Rattle.asm_faults.specs.AsmFaults.{WrongIndex, MissingName, LongModifier, TemplateFault}
use Rattle.asm_faults.specs.AsmFaults.{UnusedOperands}
use Rattle.asm_faults.specs.Labels.{Label, label}
use Rattle.asm_faults.specs.Lookups.{Lookup, ByIndex, ByName, Long}
use Rattle.asm_faults.specs.Notes.{Note, note}
use Rattle.asm_faults.specs.Operands.{Operand, Named, Register, Unnamed, index_of, indices_from}
use Rattle.asm_faults.specs.Operands.{is_named, is_register}
use Rattle.asm_faults.specs.Templates.{Template}

-- An operand as a contract sees it.
abbrev pub seen_operand : DeclaredOperand → Operand
seen_operand UnnamedIn = Unnamed
seen_operand (NamedIn w) = Named (text w)
seen_operand (RegisterIn b) = Register b

-- A template as a contract sees it.
abbrev pub seen_template : DeclaredTemplate → Template
seen_template t = record {
  text = text t.text;
  style = t.style;
  snippet = option_map text t.snippet;
}

-- A lookup as a contract sees it.
abbrev pub seen_lookup : DeclaredLookup → Lookup
seen_lookup (IndexIn s n) = ByIndex s n
seen_lookup (NameIn s w) = ByName s (text w)
seen_lookup (LongLookupIn s) = Long s

-- A fault as a contract sees it.
abbrev pub seen_fault : DeclaredFault → AsmFault
seen_fault (LateIn i js) = PositionalAfter i js.items
seen_fault (RepeatedIn i f) = RepeatedName i f
seen_fault (RegisterNameIn i) = RegisterName i
seen_fault (WrongIn s i n) = WrongIndex s i n
seen_fault (MissingIn s w) = MissingName s (text w)
seen_fault (LongIn s) = LongModifier s
seen_fault (TextIn k f) = TemplateFault k (seen_text_fault f)
seen_fault (UnusedIn is) = UnusedOperands is.items

-- A label as a contract sees it.
abbrev pub seen_label : AsmLabel → Label
seen_label l = label l.spot l.is_primary (string_bytes l.text)

-- A note or a help as a contract sees it.
abbrev pub seen_note : AsmNote → Note
seen_note n = note (string_bytes n.text) n.spot

-- The number that a map has for a name.
abbrev pub found_in : BTreeMap (Bor (List ℕ)) ℕ → Text → Option ℕ
found_in m w = get_by (λ k. slice_cmp nat_cmp (encode_utf8_all w) k.now) m

-- The collection has these operands, as placeholders refer to them.
pub record Holds (ss : List Operand) (a : Operands) : Type 0 where
  pub slots : map seen_operand a.slots.items ≡ ss
  pub names : (w : Text) → found_in a.names w ≡ index_of ss w
  pub named : a.named_operands.items ≡ indices_from is_named 0 ss
  pub registers : a.registers.items ≡ indices_from is_register 0 ss
