-- What inlining makes of a call of a file.
use Rattle.std.specs.Prelude.{◌≡◌, ◌+◌, ◌-◌, ◌^◌, ◌<◌, ◌++◌, ◌⊎◌, ℕ, Bool, true, false, not, List}
use Rattle.std.specs.Prelude.{[], ◌∷◌, IsUtf8, if◌then◌else◌, min}
use Rattle.std.specs.Prelude.{Option, Some, None, Result, Ok, Err, chars, drop, encode_utf8_all}
use Rattle.std.specs.Prelude.{is_some, length, map, option_map, slice_get}
use Rattle.std.specs.List.{filter_map, list_any}
use Rattle.rustc_parse_format.specs.Characters.{Text}
use Rattle.rustc_parse_format.specs.Literal.{IsLiteral, newline}
use Rattle.rust_trees.specs.Leaves.{Leaf}
use Rattle.format_calls.specs.Arguments.{AreArguments}
use Rattle.format_calls.specs.Extents.{AreUpTo, is_uncounted}
use Rattle.format_calls.specs.Rows.{rule_of}
use Rattle.format_calls.specs.Standard.{standard}
use Rattle.format_calls.specs.declared.listing.Call.{Call}
use Rattle.format_calls.specs.declared.split.Argument.{Argument}
use Rattle.format_calls.specs.declared.table.Rule.{Rule}
use Rattle.format_calls.specs.declared.table.Rule.TheVariants.{Index, IndexByEdition, FirstLiteral}
use Rattle.format_calls.specs.declared.table.Rule.TheVariants.{Templates}
use Rattle.source_report.specs.declared.report.CallReading.{CallReading}
use Rattle.source_report.specs.declared.report.CallReading.TheVariants.{ForeignMacro, Malformed}
use Rattle.source_report.specs.declared.report.CallReading.TheVariants.{NoComma, NoExpression}
use Rattle.source_report.specs.declared.report.CallReading.TheVariants.{RedefinedMacro, StringAlone}
use Rattle.source_report.specs.declared.report.CallReading.TheVariants.{Unread as CannotRead, Whole}
use Rattle.asm_lint.specs.Literals.{AreBefore, appends_newline, dropped_crs, without_crs}
use Rattle.source_lint.specs.Readings.{Scope, arguments_before, captures_variables, ends_early}
use Rattle.source_lint.specs.Readings.{index_or}
use Rattle.source_lint.specs.Readings.{name_at, skipped_reading}
use Rattle.inlined_arguments.specs.Conditions.{Call as FormatCall}
use Rattle.inlined_arguments.specs.Edits.{AreApart, Edit, edited_text}
use Rattle.inlined_arguments.specs.Inlining.{InlinedCall, IsInlined, IsUnchanged}
use Rattle.inlined_arguments.specs.declared.call.Obstacle.TheVariants.{OtherMeaning}
use Rattle.file_inlines.specs.declared.calls.CallInlining.{CallInlining}
use Rattle.file_inlines.specs.declared.calls.CallInlining.TheVariants.{Inlined as IsIn}
use Rattle.file_inlines.specs.declared.calls.CallInlining.TheVariants.{Assembly, Unchanged, Unread}
use Rattle.file_inlines.specs.declared.calls.CallInlining.TheVariants.{Uncertain}
use Rattle.file_inlines.specs.Sources.{removed_place, with_source}
use Rattle.file_inlines.specs.Terms.{Terms, is_inlined, left_reason}

-- An edit n bytes further on. (An offset is at most 2^64 - 1.)
abbrev pub moved_edit : ℕ → Edit → Edit
moved_edit n e = record {
  span = (min (n + e.span.0) (2 ^ 64 - 1), min (n + e.span.1) (2 ^ 64 - 1));
  text = e.text;
}

-- The edit that removes an argument with its source.
abbrev pub removal : List ℕ → List Leaf → Argument → Edit
removal bs xs a = record { span = removed_place bs xs a; text = [] }

-- The offset o of a literal is p in its token, which has these CRs more: those before it count.
abbrev pub IsOffsetIn : List ℕ → ℕ → ℕ → Type 0
IsOffsetIn crs o p = (n : ℕ) × AreBefore crs o n × (o + n < 2 ^ 64 → p ≡ o + n)

-- The edits es of a literal are fs in its token.
abbrev pub AreInToken : List ℕ → List Edit → List Edit → Type 0
AreInToken crs [] fs = fs ≡ []
AreInToken crs (e ∷ es) fs = (f : Edit) × (more : List Edit) × (fs ≡ f ∷ more)
    × IsOffsetIn crs e.span.0 f.span.0 × IsOffsetIn crs e.span.1 f.span.1 × (f.text ≡ e.text)
    × AreInToken crs es more

-- These edits of a token are those of r.
abbrev pub AreTokenEdits : Leaf → InlinedCall → List Edit → Type 0
AreTokenEdits literal r es = AreInToken (dropped_crs 0 (chars literal.text)) r.edits es

-- With these edits the token is the literal of r, up to the CR before each LF.
pub record MakeLiteral (literal : Leaf) (r : InlinedCall) (es : List Edit) : Type 0 where
  pub are_apart : AreApart 0 es (length literal.text)
  pub is_text : IsUtf8 (edited_text 0 es literal.text)
  pub is_new : without_crs (chars (edited_text 0 es literal.text)) ≡ chars r.literal

-- The edits of a literal in its file.
pub record AreLiteralEdits (literal : Leaf) (r : InlinedCall) (es : List Edit) : Type 0 where
  pub inside : List Edit
  pub are_inside : AreTokenEdits literal r inside
  pub make : MakeLiteral literal r inside
  pub edits : es ≡ map (moved_edit literal.start) inside

-- The literal has no edits in its file, since with those of r its token is another literal.
pub record HasNoEdits (literal : Leaf) (r : InlinedCall) : Type 0 where
  pub inside : List Edit
  pub are_inside : AreTokenEdits literal r inside
  pub make_none : MakeLiteral literal r inside → ⊥

-- The edits of a call in a file with the bytes bs: those of its literal, and the removal of each
-- argument that goes.
pub record AreEdits (bs : List ℕ) (xs : List Leaf) (literal : Leaf) (args : List Argument)
    (r : InlinedCall) (es : List Edit) : Type 0 where
  pub of_literal : List Edit
  pub are_of_literal : AreLiteralEdits literal r of_literal
  pub edits : es ≡ of_literal
      ++ filter_map (λ n. option_map (removal bs xs) (slice_get args n)) r.removed_indices

-- The string of a macro with this rule and this name is known to be a format string if no argument
-- follows it. Some macros of crates then take any string, as `bail!` of error-chain.
abbrev pub is_format_alone : Bool → Rule → List ℕ → Bool
is_format_alone is_new (Index n) w = is_some (rule_of standard w)
is_format_alone is_new (IndexByEdition n) w = is_new
is_format_alone is_new FirstLiteral w = true
is_format_alone is_new Templates w = false

-- A `const fn` may call the macro with one argument and the string `{}`.
abbrev pub has_const_form : Rule → Bool
has_const_form (Index n) = false
has_const_form (IndexByEdition n) = true
has_const_form FirstLiteral = false
has_const_form Templates = false

-- A call with this reading has a format string that was read.
abbrev pub has_string : CallReading → Bool
has_string Whole = true
has_string StringAlone = true
has_string RedefinedMacro = false
has_string ForeignMacro = false
has_string NoExpression = false
has_string NoComma = false
has_string (CannotRead e) = false
has_string Malformed = false

-- The same for a macro with this rule, where the format string was not read.
abbrev pub is_unread : Rule → CallReading → Bool
is_unread (Index n) q = not (has_string q)
is_unread (IndexByEdition n) q = not (has_string q)
is_unread FirstLiteral q = not (has_string q)
is_unread Templates q = false

-- The call of a macro with this rule and the name w, whose string is this literal and stands for
-- the text t. Its arguments have their sources in a file with the bytes bs.
abbrev pub call_of : Bool → Rule → List ℕ → List ℕ → List Leaf → Text → Option ℕ → Text
    → List Argument → Bool → FormatCall
call_of is_new rule w bs xs literal style t args counted = record {
  text = t ++ newline (appends_newline w);
  style = style;
  literal = Some (encode_utf8_all literal);
  appended_newline = appends_newline w;
  captures_variables = captures_variables is_new rule w;
  arguments = map (with_source bs xs) args;
  is_counted = counted;
  is_format_alone = is_format_alone is_new rule w;
  has_const_form = has_const_form rule;
}

-- This call, whose format string is this literal of a file, is inlined with these edits, or it is
-- left for this reason, and there is no edit.
abbrev pub Makes : Bool → FormatCall → Leaf → (InlinedCall → List Edit → Type 0) → CallInlining
    → List Edit → Type 0
Makes mixed c literal Edits IsIn es = (r : InlinedCall) × IsInlined mixed c r × Edits r es
Makes mixed c literal Edits (Unchanged l) es = (IsUnchanged mixed c l
    ⊎ ((l ≡ OtherMeaning) × (r : InlinedCall) × IsInlined mixed c r × HasNoEdits literal r))
    × (es ≡ [])
Makes mixed c literal Edits (Unread q) es = ⊥
Makes mixed c literal Edits Assembly es = ⊥
Makes mixed c literal Edits Uncertain es = ⊥

-- The same where the format string is the literal of a token, which may stand for no text.
abbrev pub InlinesLiteral : Bool → Bool → Rule → List ℕ → List ℕ → List Leaf → Leaf
    → List Argument → Bool → CallInlining → List Edit → Type 0
InlinesLiteral is_new mixed rule w bs xs x args counted r es =
    (((style : Option ℕ) (t : Text) → IsLiteral style (without_crs (chars x.text)) t → ⊥)
    × (r ≡ Unread Malformed) × (es ≡ []))
    ⊎ ((style : Option ℕ) × (t : Text) × IsLiteral style (without_crs (chars x.text)) t
    × Makes mixed
    (call_of is_new rule w bs xs (without_crs (chars x.text)) style t args counted)
    x (AreEdits bs xs x args) r es)

-- The same where the format string begins the argument n of these, and the others after it are
-- formatted, up to where they end.
pub record InlinesAt (is_new mixed : Bool) (bs : List ℕ) (xs : List Leaf) (c : Call)
    (args : List Argument) (n : ℕ) (r : CallInlining) (es : List Edit) : Type 0 where
  pub string : Argument
  pub is_string : slice_get args n ≡ Some string
  pub literal : Leaf
  pub is_literal : slice_get xs string.start ≡ Some literal
  pub trees : List ℕ
  pub end : ℕ
  pub are_up_to : AreUpTo (ends_early c.rule) xs (string.start + 1) trees end c.close
  pub inlines : InlinesLiteral is_new mixed c.rule (name_at xs c.name) bs xs literal
      (arguments_before end (drop (n + 1) args)) (not (list_any (is_uncounted xs) trees)) r es

-- The same where the argument n is the format string by this rule. Templates of assembly stay.
abbrev pub InlinesOne : Rule → Bool → Bool → List ℕ → List Leaf → Call → List Argument → ℕ
    → CallInlining → List Edit → Type 0
InlinesOne (Index m) is_new mixed bs xs c args n r es = InlinesAt is_new mixed bs xs c args n r es
InlinesOne (IndexByEdition m) is_new mixed bs xs c args n r es =
    InlinesAt is_new mixed bs xs c args n r es
InlinesOne FirstLiteral is_new mixed bs xs c args n r es =
    InlinesAt is_new mixed bs xs c args n r es
InlinesOne Templates is_new mixed bs xs c args n r es = (r ≡ Assembly) × (es ≡ [])

-- The same where the argument n is the format string, or none is read for this reason.
abbrev pub InlinesBy : Bool → Bool → List ℕ → List Leaf → Call → List Argument
    → Result ℕ CallReading → CallInlining → List Edit → Type 0
InlinesBy is_new mixed bs xs c args (Ok n) r es =
    InlinesOne c.rule is_new mixed bs xs c args n r es
InlinesBy is_new mixed bs xs c args (Err q) r es = (r ≡ Unread q) × (es ≡ [])

-- The same, unless the macro is another one than that of the table for this reason.
abbrev pub InlinesUnless : Option CallReading → Bool → Bool → List ℕ → List Leaf → Call
    → CallInlining → List Edit → Type 0
InlinesUnless (Some q) is_new mixed bs xs c r es = (r ≡ Unread q) × (es ≡ [])
InlinesUnless None is_new mixed bs xs c r es = (args : List Argument)
    × AreArguments xs (c.name + 3) args c.close
    × InlinesBy is_new mixed bs xs c args (index_or is_new xs c.rule args) r es

-- This becomes of a call in a file with this scope, and it has these edits.
abbrev pub Inlines : Scope → Bool → Bool → List Leaf → Call → CallInlining → List Edit → Type 0
Inlines s is_new mixed xs c r es =
    InlinesUnless (skipped_reading s c.rule (slice_get xs c.name)) is_new
    mixed s.text xs c r es

-- The same where a call that could be inlined is left for this reason, if there is one. Any other
-- call is left for its own.
abbrev pub InlinesUnder : Option CallInlining → (CallInlining → List Edit → Type 0) → CallInlining
    → List Edit → Type 0
InlinesUnder None P r es = P r es
InlinesUnder (Some reason) P r es = (own : CallInlining) × (edits : List Edit) × P own edits
    × (r ≡ (if is_inlined own then reason else own))
    × (es ≡ (if is_inlined own then [] else edits))

-- The same on these terms.
abbrev pub InlinesOn : Terms → Scope → Bool → List Leaf → Call → CallInlining → List Edit → Type 0
InlinesOn t s is_new xs c r es = InlinesUnder (left_reason t (name_at xs c.name))
    (Inlines s is_new t.allows_mixed xs c) r es
