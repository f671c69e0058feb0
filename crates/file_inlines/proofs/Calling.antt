-- A call that is inlined.
use Rattle.std.proofs.Common.{◌≡◌, ◌+◌, ◌++◌, ℕ, Bool, List, Option, None, Some, map, refl, subst}
use Rattle.std.specs.Prelude.{Result, encode_utf8_all}
use Rattle.rustc_parse_format.specs.Characters.{Text}
use Rattle.rustc_parse_format.specs.Literal.{newline}
use Rattle.rust_trees.specs.Leaves.{Leaf}
use Rattle.format_calls.specs.Arguments.{AreArguments}
use Rattle.format_calls.specs.declared.listing.Call.{Call}
use Rattle.format_calls.specs.declared.split.Argument.{Argument}
use Rattle.format_calls.specs.declared.table.Rule.{Rule}
use Rattle.asm_lint.specs.Literals.{appends_newline}
use Rattle.source_lint.specs.Readings.{captures_variables, index_or}
use Rattle.source_report.specs.declared.report.CallReading.{CallReading}
use Rattle.inlined_arguments.specs.Conditions.{Call as FormatCall}
use Rattle.inlined_arguments.specs.Edits.{Edit}
use Rattle.inlined_arguments.specs.Variables.{Argument as FormatArgument}
use Rattle.file_inlines.specs.CallInlines.{InlinesBy, InlinesLiteral, InlinesUnder}
use Rattle.file_inlines.specs.CallInlines.{InlinesUnless, call_of}
use Rattle.file_inlines.specs.CallInlines.{has_const_form, is_format_alone}
use Rattle.file_inlines.specs.Sources.{with_source}
use Rattle.file_inlines.specs.declared.calls.CallInlining.{CallInlining}

-- The same becomes of it where all that is known of the call is the same.
pub inlines-by : (is_new mixed : Bool) (rule : Rule) (w v bs : List ℕ) (ys xs : List Leaf)
    (x : Leaf) (args others : List Argument) (p q : Bool) (r : CallInlining) (es : List Edit)
    → w ≡ v → ys ≡ xs → args ≡ others → p ≡ q
    → InlinesLiteral is_new mixed rule w bs ys x args p r es
    → InlinesLiteral is_new mixed rule v bs xs x others q r es
inlines-by is_new mixed rule w v bs ys xs x args others p q r es e f g h k =
    subst (λ a. InlinesLiteral is_new mixed rule a bs xs x others q r es) e
    (subst (λ a. InlinesLiteral is_new mixed rule w bs a x others q r es) f
    (subst (λ a. InlinesLiteral is_new mixed rule w bs ys x a q r es) g
    (subst (λ a. InlinesLiteral is_new mixed rule w bs ys x args a r es) h k)))

-- A call with these parts is the one that inlining sees.
pub call-same : (is_new : Bool) (rule : Rule) (w bs : List ℕ) (xs : List Leaf) (lines t text : Text)
    (literal : List ℕ) (style : Option ℕ) (args : List Argument) (counted a c alone const : Bool)
    (fs : List FormatArgument) → text ≡ t ++ newline a → literal ≡ encode_utf8_all lines
    → a ≡ appends_newline w → c ≡ captures_variables is_new rule w → fs
    ≡ map (with_source bs xs) args
    → alone ≡ is_format_alone is_new rule w → const ≡ has_const_form rule
    → ◌≡◌ {A = FormatCall} (record {
      text = text;
      style = style;
      literal = Some literal;
      appended_newline = a;
      captures_variables = c;
      arguments = fs;
      is_counted = counted;
      is_format_alone = alone;
      has_const_form = const;
    }) (call_of is_new rule w bs xs lines style t args counted)
call-same is_new rule w bs xs lines t text literal style args counted a c alone const fs
    e f g h i j k = rw (e, f, g, h, i, j, k) refl

-- What becomes of a call whose macro the file does not define.
pub inlines-here : (is_new mixed : Bool) (bs : List ℕ) (t : Option CallReading) (xs : List Leaf)
    (c : Call) (args : List Argument) (o : Result ℕ CallReading) (r : CallInlining)
    (es : List Edit) → None ≡ t → AreArguments xs (c.name + 3) args c.close
    → o ≡ index_or is_new xs c.rule args → InlinesBy is_new mixed bs xs c args o r es
    → InlinesUnless t is_new mixed bs xs c r es
inlines-here is_new mixed bs t xs c args o r es n a e h =
    subst (λ v. InlinesUnless v is_new mixed bs xs c r es) n
    (args, a, subst (λ v. InlinesBy is_new mixed bs xs c args v r es) e h)

-- What becomes of a call on terms, where the same becomes of it without them.
pub under-map : (o : Option CallInlining) (P Q : CallInlining → List Edit → Type 0)
    (r : CallInlining) (es : List Edit)
    → ((q : CallInlining) (fs : List Edit) → P q fs → Q q fs)
    → InlinesUnder o P r es → InlinesUnder o Q r es
under-map None P Q r es f h = f r es h
under-map (Some x) P Q r es f h = (h.0, h.1, f h.0 h.1 h.2, h.3, h.4)
