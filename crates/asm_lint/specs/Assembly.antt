-- The reading of a call of a macro for inline assembly.
use Rattle.std.specs.Prelude.{◌≡◌, ◌⊎◌, ◌&&◌, ◌+◌, not, ℕ, Bool, true, false, List, [], ◌∷◌, Option}
use Rattle.std.specs.Prelude.{Some, None, chars, drop, take, slice_get, string_bytes}
use Rattle.std.specs.List.{filter_map, list_any}
use Rattle.rustc_parse_format.specs.Characters.{Text}
use Rattle.rustc_parse_format.specs.Literal.{IsLiteral}
use Rattle.rust_trees.specs.Leaves.{Leaf}
use Rattle.format_calls.specs.Assembly.{asm_part}
use Rattle.format_calls.specs.Extents.{AreTrees, is_uncounted}
use Rattle.format_calls.specs.declared.assembly.AsmPart.{AsmPart}
use Rattle.format_calls.specs.declared.assembly.AsmPart.TheVariants.{Operand as OperandPart, Raw}
use Rattle.format_calls.specs.declared.assembly.AsmPart.TheVariants.{Register as RegisterPart}
use Rattle.format_calls.specs.declared.assembly.AsmPart.TheVariants.{Setting, Unknown}
use Rattle.format_calls.specs.declared.listing.Call.{Call}
use Rattle.format_calls.specs.declared.split.Argument.{Argument}
use Rattle.asm_faults.specs.Calls.{asm_faults}
use Rattle.asm_faults.specs.Operands.{Operand, Named, Register, Unnamed, slots_after}
use Rattle.asm_faults.specs.Templates.{Template}
use Rattle.asm_lint.specs.declared.asm_findings.ReadTemplate.{ReadTemplate}
use Rattle.source_report.specs.declared.report.CallReading.{CallReading}
use Rattle.source_report.specs.declared.report.CallReading.TheVariants.{Malformed, StringAlone}
use Rattle.source_report.specs.declared.report.CallReading.TheVariants.{Whole}
use Rattle.source_report.specs.declared.report.Finding.{Finding}
use Rattle.asm_lint.specs.AsmFindings.{TellAllAsm, counted_asm}
use Rattle.asm_lint.specs.Names.{name_of}
use Rattle.asm_lint.specs.Literals.{without_crs}

-- How much of a call is read where the number of its arguments is known, and where it is not.
abbrev pub reading_of : Bool → CallReading
reading_of true = Whole
reading_of false = StringAlone

-- An operand without a register of its own, with this name or none.
abbrev pub named_operand : Option Text → Operand
named_operand None = Unnamed
named_operand (Some w) = Named w

-- The operand that an argument is, if it is one.
abbrev pub operand_of : List Leaf → Argument → AsmPart → Option Operand
operand_of xs a OperandPart = Some (named_operand (name_of xs a))
operand_of xs a RegisterPart = Some (Register a.is_named)
operand_of xs a Raw = None
operand_of xs a Setting = None
operand_of xs a Unknown = None

-- The operands among these arguments.
abbrev pub operands : List Leaf → List Argument → List Operand
operands xs bs = filter_map (λ a. operand_of xs a (asm_part xs a)) bs

abbrev pub is_raw_part : AsmPart → Bool
is_raw_part OperandPart = false
is_raw_part RegisterPart = false
is_raw_part Raw = true
is_raw_part Setting = false
is_raw_part Unknown = false

-- An option says that templates have no placeholders.
abbrev pub are_raw : List Leaf → List Argument → Bool
are_raw xs bs = list_any (λ a. is_raw_part (asm_part xs a)) bs

abbrev pub is_unknown_part : AsmPart → Bool
is_unknown_part OperandPart = false
is_unknown_part RegisterPart = false
is_unknown_part Raw = false
is_unknown_part Setting = false
is_unknown_part Unknown = true

-- One of the arguments is no operand, option or ABI.
abbrev pub is_unknown : List Leaf → List Argument → Bool
is_unknown xs bs = list_any (λ a. is_unknown_part (asm_part xs a)) bs

-- The argument is a literal that stands for no text.
abbrev pub HasNoText : List Leaf → Argument → Type 0
HasNoText xs a = (x : Leaf) × (slice_get xs a.start ≡ Some x)
    × ((style : Option ℕ) (t : Text) → IsLiteral style (without_crs (chars x.text)) t → ⊥)

-- One of these arguments is a literal that stands for no text.
abbrev pub HaveNoText : List Leaf → List Argument → Type 0
HaveNoText xs [] = ⊥
HaveNoText xs (a ∷ bs) = HasNoText xs a ⊎ HaveNoText xs bs

-- The template is the literal that an argument is, with lines that end with LF.
pub record IsTemplate (xs : List Leaf) (a : Argument) (t : Template) : Type 0 where
  pub literal : Leaf
  pub is_there : slice_get xs a.start ≡ Some literal
  pub is_literal : IsLiteral t.style (without_crs (chars literal.text)) t.text
  pub snippet : t.snippet ≡ Some (without_crs (chars literal.text))

-- The templates are these arguments, one after the other.
abbrev pub AreTemplates : List Leaf → List Argument → List Template → Type 0
AreTemplates xs [] [] = Unit {0}
AreTemplates xs [] (t ∷ ts) = ⊥
AreTemplates xs (a ∷ bs) [] = ⊥
AreTemplates xs (a ∷ bs) (t ∷ ts) = IsTemplate xs a t × AreTemplates xs bs ts

-- A template that was read, as a contract sees it.
abbrev pub seen_read : ReadTemplate → Template
seen_read t = record {
  text = chars (string_bytes t.literal.text);
  style = t.literal.style;
  snippet = Some (chars (string_bytes t.literal.snippet));
}

-- This is the reading of a call with these templates and operands, and these are the findings. If
-- the operands are not known, only the fault of a template counts.
abbrev pub FindsAsm : Bool → List Template → List Operand → CallReading → List Finding → Type 0
FindsAsm counted ts os r fs = (r ≡ reading_of counted)
    × TellAllAsm (slots_after [] os) (counted_asm counted (asm_faults ts os)) fs

-- The templates whose placeholders count: none with `options(raw)`.
abbrev pub read_templates : Bool → List Template → List Template
read_templates true ts = []
read_templates false ts = ts

-- The same where the templates are these arguments, which may stand for no text.
abbrev pub ReadsLiterals : List Leaf → List Argument → Bool → Bool → List Operand → CallReading
    → List Finding → Type 0
ReadsLiterals xs bs raw counted os r fs = (HaveNoText xs bs × (r ≡ Malformed) × (fs ≡ []))
    ⊎ ((ts : List Template) × AreTemplates xs bs ts
    × FindsAsm counted (read_templates raw ts) os r fs)

-- The operands and options are known: each argument is one, and no macro repeats some of them.
abbrev pub are_operands : List Leaf → List Argument → List ℕ → Bool
are_operands xs bs ts = not (is_unknown xs bs) && not (list_any (is_uncounted xs) ts)

-- The same where the first n arguments are templates, and the others operands and options.
pub record ReadsTemplates (xs : List Leaf) (c : Call) (args : List Argument) (n : ℕ)
    (r : CallReading) (fs : List Finding) : Type 0 where
  pub trees : List ℕ
  pub are_trees : AreTrees xs (c.name + 3) trees c.close
  pub reads : ReadsLiterals xs (take n args) (are_raw xs (drop n args))
      (are_operands xs (drop n args) trees) (operands xs (drop n args)) r fs
