-- What a contract sees of the values of this crate: texts as their characters, ranges as places.
use Rattle.std.specs.Prelude.{◌≡◌, ℕ, List, Option, None, map, option_map, string_bytes}
use Rattle.std.specs.BTreeMap.{BTreeMap, get_by}
use Rattle.std.specs.Cmp.Lexicographic.{slice_cmp}
use Rattle.std.specs.Ordering.{nat_cmp}
use Rattle.std.specs.Str.{encode_utf8_all}
use denote.Ref.{Bor}
use Rattle.rustc_parse_format.specs.Characters.{Text}
use Rattle.rustc_parse_format.specs.Views.{pair}
use Rattle.placeholder_check.specs.Views.{text}
use Rattle.inlined_arguments.specs.declared.call.Argument.{Argument as DeclaredArgument}
use Rattle.inlined_arguments.specs.declared.call.Call.{Call as DeclaredCall}
use Rattle.inlined_arguments.specs.declared.call.Edit.{Edit as DeclaredEdit}
use Rattle.inlined_arguments.specs.declared.call.InlinedCall.{InlinedCall as DeclaredInlinedCall}
use Rattle.inlined_arguments.specs.declared.values.Amount.{Amount as DeclaredAmount}
use Rattle.inlined_arguments.specs.declared.values.Amount.TheVariants.{Number as NumberIn}
use Rattle.inlined_arguments.specs.declared.values.Amount.TheVariants.{ValueOf as ValueIn}
use Rattle.inlined_arguments.specs.declared.values.Amount.TheVariants.{Absent as AbsentIn}
use Rattle.inlined_arguments.specs.declared.edits.Reference.{Reference as DeclaredReference}
use Rattle.inlined_arguments.specs.declared.edits.Reference.TheVariants.{WrittenName as NameIn}
use Rattle.inlined_arguments.specs.declared.edits.Reference.TheVariants.{WrittenIndex as IndexIn}
use Rattle.inlined_arguments.specs.declared.edits.Reference.TheVariants.{Unwritten as NeitherIn}
use Rattle.inlined_arguments.specs.declared.slots.Slot.{Slot as DeclaredSlot}
use Rattle.inlined_arguments.specs.declared.slots.Value.{Value as DeclaredValue}
use Rattle.inlined_arguments.specs.declared.slots.Value.TheVariants.{Variable as VariableIn}
use Rattle.inlined_arguments.specs.declared.slots.Value.TheVariants.{Expression as ExpressionIn}
use Rattle.inlined_arguments.specs.declared.values.Values.{Values}
use Rattle.inlined_arguments.specs.Conditions.{Call}
use Rattle.inlined_arguments.specs.Edits.{Edit, Reference, Unwritten, WrittenIndex, WrittenName}
use Rattle.inlined_arguments.specs.Inlining.{InlinedCall}
use Rattle.inlined_arguments.specs.Values.{Amount, Number, ValueOf, Absent}
use Rattle.inlined_arguments.specs.Values.{Value, Variable, Expression, Slot, value_after}
use Rattle.inlined_arguments.specs.Variables.{Argument}

-- An argument as a contract sees it.
abbrev pub seen_argument : DeclaredArgument → Argument
seen_argument a = record {
  name = option_map text a.name;
  word = option_map (λ s. s.now) a.word;
  source = a.source.now;
}

-- A call as a contract sees it.
abbrev pub seen_call : DeclaredCall → Call
seen_call c = record {
  text = text c.string.text;
  style = c.string.style;
  literal = option_map (λ s. s.now) c.string.snippet;
  appended_newline = c.string.appended_newline;
  captures_variables = c.string.captures_variables;
  arguments = map seen_argument c.arguments.now;
  is_counted = c.is_counted;
  is_format_alone = c.is_format_alone;
  has_const_form = c.has_const_form;
}

-- An edit as a contract sees it.
abbrev pub seen_edit : DeclaredEdit → Edit
seen_edit e = record { span = pair e.span; text = string_bytes e.text }

-- A value as a contract sees it.
abbrev pub seen_value : DeclaredValue → Value
seen_value (VariableIn w) = Variable (text w)
seen_value (ExpressionIn n) = Expression n

-- A reference as a contract sees it.
abbrev pub seen_reference : DeclaredReference → Reference
seen_reference (NameIn w) = WrittenName (text w)
seen_reference (IndexIn n) = WrittenIndex n
seen_reference NeitherIn = Unwritten

-- A slot as a contract sees it.
abbrev pub seen_slot : DeclaredSlot → Slot
seen_slot s = record { name = option_map text s.name; value = seen_value s.value }

-- What is made of a call, as a contract sees it.
abbrev pub seen_inlined : DeclaredInlinedCall → InlinedCall
seen_inlined r = record {
  edits = map seen_edit r.edits.items;
  literal = string_bytes r.literal;
  removed_indices = r.removed_indices.items;
}

-- A width or a precision as a contract sees it.
abbrev pub seen_amount : DeclaredAmount → Amount
seen_amount (NumberIn n) = Number n
seen_amount (ValueIn v) = ValueOf (option_map seen_value v)
seen_amount AbsentIn = Absent

-- What a map has for a name.
abbrev pub found_in : BTreeMap (Bor (List ℕ)) DeclaredValue → Text → Option Value
found_in m w = option_map seen_value
    (get_by (λ k. slice_cmp nat_cmp (encode_utf8_all w) k.now) m)

-- The slots of values.
abbrev pub seen_slots : Values → List Slot
seen_slots v = map seen_slot v.slots.now

-- The map of the values has the values of names.
abbrev pub Knows : Values → Type 0
Knows v = (w : Text) → found_in v.named_values w ≡ value_after None (seen_slots v) w
