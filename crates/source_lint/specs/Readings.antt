-- The reading of a call, and the findings in it.
use Rattle.std.specs.Prelude.{◌≡◌, ◌+◌, ◌++◌, ◌⊎◌, ◌||◌, not, ℕ, Bool, true, false, List, [], ◌∷◌}
use Rattle.std.specs.Prelude.{Option, Some, None, Result, Ok, Err, chars, codes, drop, map}
use Rattle.std.specs.Prelude.{slice_get, ◌==◌, ◌&&◌, if◌then◌else◌, is_some, min, nat_lt}
use Rattle.std.specs.List.{list_any}
use Rattle.std.specs.Str.{bytes_eq}
use Rattle.rustc_parse_format.specs.Characters.{Text}
use Rattle.rustc_parse_format.specs.Call.{pieces_of}
use Rattle.rustc_parse_format.specs.Literal.{IsLiteral, newline}
use Rattle.rustc_parse_format.specs.State.{State, after_all, calls, first_state}
use Rattle.rustc_parse_format.specs.Types.{Format, Piece}
use Rattle.rustc_parse_format.specs.World.{Place, pieces_in}
use Rattle.rust_trees.specs.Leaves.{Leaf}
use Rattle.format_calls.specs.Arguments.{AreArguments, tokens_of}
use Rattle.format_calls.specs.Extents.{AreUpTo, is_uncounted}
use Rattle.format_calls.specs.Marks.{word}
use Rattle.format_calls.specs.Rows.{rule_of}
use Rattle.format_calls.specs.Standard.{with_crate_macros}
use Rattle.format_calls.specs.Strings.{format_string}
use Rattle.format_calls.specs.declared.listing.Call.{Call}
use Rattle.format_calls.specs.declared.split.Argument.{Argument}
use Rattle.format_calls.specs.declared.strings.Reason.{Reason}
use Rattle.format_calls.specs.declared.table.Rule.{Rule}
use Rattle.format_calls.specs.declared.table.Rule.TheVariants.{Index, IndexByEdition, FirstLiteral}
use Rattle.format_calls.specs.declared.table.Rule.TheVariants.{Templates}
use Rattle.format_calls.specs.Assembly.{template_count}
use Rattle.call_faults.specs.Arguments.{FormatArgument}
use Rattle.call_faults.specs.Calls.{call_faults, kept_indices}
use Rattle.call_faults.specs.Labels.{Call as CheckedCall}
use Rattle.call_faults.specs.Spots.{counts_before}
use Rattle.text_faults.specs.Texts.{text_fault}
use Rattle.source_lint.specs.declared.macros.File.{File}
use Rattle.source_report.specs.declared.report.CallReading.{CallReading}
use Rattle.source_report.specs.declared.report.CallReading.TheVariants.{RedefinedMacro}
use Rattle.source_report.specs.declared.report.CallReading.TheVariants.{ForeignMacro}
use Rattle.source_report.specs.declared.report.CallReading.TheVariants.{NoExpression}
use Rattle.source_report.specs.declared.report.CallReading.TheVariants.{NoComma, Unread, Malformed}
use Rattle.source_report.specs.declared.report.Finding.{Finding}
use Rattle.asm_lint.specs.Assembly.{ReadsTemplates}
use Rattle.source_lint.specs.Findings.{AreFindings}
use Rattle.asm_lint.specs.Assembly.{reading_of}
use Rattle.source_lint.specs.FormWords.{TellsForms}
use Rattle.call_forms.specs.Expressions.{has_variable, joined_operand}
use Rattle.call_forms.specs.Forms.{form_here}
use Rattle.source_lint.specs.Givens.{given_argument}
use Rattle.asm_lint.specs.Literals.{appends_newline, without_crs}
use Rattle.source_lint.specs.Macros.{Own, names_in, newline_by, own}
use Rattle.call_forms.specs.Operators.{lacks_operand}
use Rattle.call_forms.specs.Paths.{is_foreign}

-- A parser at the start of a format string that is this literal and stands for the text t, with a
-- newline appended or not.
abbrev pub start_of : Bool → Option ℕ → Text → Text → State
start_of appended style literal t =
    first_state Format (t ++ newline appended) style (Some literal) appended

-- The pieces of the format string at whose start the parser is.
abbrev pub pieces : State → List (Piece Place)
pieces s = pieces_in s.world (pieces_of (calls s))

-- A call with this format string, which captures variables or not, and with these arguments.
abbrev pub call_of : Bool → State → List FormatArgument → CheckedCall
call_of captures s gs = record {
  arguments = gs;
  kept = kept_indices gs;
  pieces = pieces s;
  counts = counts_before 0 (pieces s);
  places = (after_all s (calls s)).arg_places;
  total = (after_all s (calls s)).next;
  faults = call_faults captures gs (text_fault s) (pieces s);
}

-- The arguments that count: none if their number is not known.
abbrev pub counted_givens : Bool → List FormatArgument → List FormatArgument
counted_givens true gs = gs
counted_givens false gs = []

-- This is the reading of a call with this format string and these arguments, and these are the
-- findings. If the number of arguments is not known, only the fault of the string counts.
abbrev pub Finds : Bool → Bool → State → List FormatArgument → CallReading → List Finding → Type 0
Finds captures counted s gs r fs = (r ≡ reading_of counted)
    × AreFindings counted (call_of captures s (counted_givens counted gs)) fs

-- The same where the format string is this literal, which may stand for no text.
abbrev pub ReadsLiteral : Text → Bool → Bool → Bool → List FormatArgument → CallReading
    → List Finding
    → Type 0
ReadsLiteral literal appended captures counted gs r fs =
    (((style : Option ℕ) (t : Text) → IsLiteral style literal t → ⊥) × (r ≡ Malformed) × (fs ≡ []))
    ⊎ ((style : Option ℕ) × (t : Text) × IsLiteral style literal t
    × Finds captures counted (start_of appended style literal t) gs r fs)

abbrev pub name_of_leaf : Option Leaf → List ℕ
name_of_leaf None = []
name_of_leaf (Some x) = word x

-- The name of a call, without `r#`.
abbrev pub name_at : List Leaf → ℕ → List ℕ
name_at xs i = name_of_leaf (slice_get xs i)

-- The format string of a macro captures variables, unless the macro puts it into another text: so
-- does `unreachable!` of the standard library before the edition 2021.
abbrev pub captures_variables : Bool → Rule → List ℕ → Bool
captures_variables is_new (Index n) w = true
captures_variables is_new (IndexByEdition n) w = is_new || not (bytes_eq w (codes "unreachable"))
captures_variables is_new FirstLiteral w = true
captures_variables is_new Templates w = true

-- `;` ends the arguments of a macro with this rule: key-values follow it in those of slog.
abbrev pub ends_early : Rule → Bool
ends_early (Index n) = false
ends_early (IndexByEdition n) = false
ends_early FirstLiteral = true
ends_early Templates = false

-- The arguments that start before the token `end`, of which the last ends there at the latest.
abbrev pub arguments_before : ℕ → List Argument → List Argument
arguments_before end [] = []
arguments_before end (a ∷ bs) = if nat_lt a.start end
    then record { start = a.start; end = min a.end end; is_named = a.is_named }
    ∷ arguments_before end bs else []

-- The same where the format string begins the argument n of these, with a newline appended or not,
-- and the others after it are formatted, up to where they end.
pub record ReadsAt (is_new appended : Bool) (xs : List Leaf) (c : Call) (args : List Argument)
    (n : ℕ) (r : CallReading) (fs : List Finding) : Type 0 where
  pub string : Argument
  pub is_string : slice_get args n ≡ Some string
  pub literal : Leaf
  pub is_literal : slice_get xs string.start ≡ Some literal
  pub trees : List ℕ
  pub end : ℕ
  pub are_up_to : AreUpTo (ends_early c.rule) xs (string.start + 1) trees end c.close
  pub reads : ReadsLiteral (without_crs (chars literal.text)) appended
      (captures_variables is_new c.rule (name_at xs c.name))
      (not (list_any (is_uncounted xs) trees))
      (map (given_argument xs) (arguments_before end (drop (n + 1) args))) r fs

-- The same where the argument n is the format string by this rule, or where it is the first
-- template.
abbrev pub ReadsOne : Rule → Bool → Bool → List Leaf → Call → List Argument → ℕ → CallReading
    → List Finding → Type 0
ReadsOne (Index m) is_new appended xs c args n r fs = ReadsAt is_new appended xs c args n r fs
ReadsOne (IndexByEdition m) is_new appended xs c args n r fs =
    ReadsAt is_new appended xs c args n r fs
ReadsOne FirstLiteral is_new appended xs c args n r fs = ReadsAt is_new appended xs c args n r fs
ReadsOne Templates is_new appended xs c args n r fs =
    ReadsTemplates xs c args (template_count xs args) r fs

-- The same where the argument n is the format string, or where this is the reading, since none is:
-- then the finding is what is wrong with the arguments, if that is known.
abbrev pub ReadsBy : Bool → Bool → List Leaf → Call → List Argument → Result ℕ CallReading
    → CallReading → List Finding → Type 0
ReadsBy is_new appended xs c args (Ok n) r fs = ReadsOne c.rule is_new appended xs c args n r fs
ReadsBy is_new appended xs c args (Err q) r fs = (r ≡ q) × TellsForms
    (form_here is_new (name_at xs c.name) c.rule c.close args (map (tokens_of xs) args)) fs

-- No token stands where the argument should.
abbrev pub is_empty : Argument → Bool
is_empty a = a.start == a.end

abbrev pub index_by : Result ℕ Reason → Result ℕ CallReading
index_by (Ok n) = Ok n
index_by (Err e) = Err (Unread e)

abbrev pub index_if : Bool → Bool → Result ℕ Reason → Result ℕ CallReading
index_if lacks joins o =
    if lacks then Err NoExpression else (if joins then Err NoComma else index_by o)

-- The arguments of a macro with this rule are expressions, up to the last one: those of tracing and
-- of slog have forms of their own.
abbrev pub are_expressions : Rule → Bool
are_expressions (Index n) = true
are_expressions (IndexByEdition n) = true
are_expressions FirstLiteral = false
are_expressions Templates = false

-- An operator lacks an operand in one of the arguments of a macro with this rule, and no variable
-- of a macro stands in them.
abbrev pub lack_expression : Rule → List (List Leaf) → Bool
lack_expression r ps = are_expressions r
    && (list_any lacks_operand ps && not (list_any has_variable ps))

-- The arguments of a macro with this rule are expressions: operands are none.
abbrev pub has_expressions : Rule → Bool
has_expressions (Index n) = true
has_expressions (IndexByEdition n) = true
has_expressions FirstLiteral = true
has_expressions Templates = false

-- The index of the argument that is the format string, or the reading if none is read: where no
-- token stands where an argument should, or an operator lacks an operand, where no comma stands
-- between two expressions, or where no argument is one.
abbrev pub index_or : Bool → List Leaf → Rule → List Argument → Result ℕ CallReading
index_or is_new xs r args = index_if
    (list_any is_empty args || lack_expression r (map (tokens_of xs) args))
    (has_expressions r && list_any (λ p. is_some (joined_operand p)) (map (tokens_of xs) args))
    (format_string xs r args is_new)

-- The parts of a file that say which macro a name is: its text, in bytes, the names of the macros
-- that it defines, and those of its macros of which the table says how their calls are read.
pub record Scope : Type 0 where
  pub text : List ℕ
  pub own : List Own
  pub defined : List (List ℕ)

-- Those of a file as a contract sees them.
abbrev pub scope : File → Scope
scope f = record {
  text = f.text.now;
  own = map own f.own_macros.now;
  defined = names_in f.macros.now;
}

-- The offset of the name of a call in its file.
abbrev pub offset_of_leaf : Option Leaf → ℕ
offset_of_leaf None = 0
offset_of_leaf (Some x) = x.start

-- A macro with this rule and this name is one of log, tracing or slog, if no path says otherwise.
abbrev pub is_log : Rule → List ℕ → Bool
is_log (Index n) w = false
is_log (IndexByEdition n) w = false
is_log FirstLiteral w = is_some (rule_of with_crate_macros w)
is_log Templates w = false

abbrev pub skipped_if : Bool → Bool → Option CallReading
skipped_if true b = Some RedefinedMacro
skipped_if false true = Some ForeignMacro
skipped_if false false = None

-- The table says how calls of the macro of this name are read, which the file defines.
abbrev pub is_own : Scope → List ℕ → Bool
is_own s w = is_some (newline_by s.own w)

-- The reading of a call with this rule and this name, if its macro is another one than that of the
-- table: the file defines one of this name, and the table does not say how its calls are read, or
-- the name is one of log, tracing or slog, with a path of another crate in front of it.
abbrev pub skipped_reading : Scope → Rule → Option Leaf → Option CallReading
skipped_reading s r o = skipped_if
    (list_any (bytes_eq (name_of_leaf o)) s.defined && not (is_own s (name_of_leaf o)))
    (is_log r (name_of_leaf o) && is_foreign s.text (offset_of_leaf o))

abbrev pub newline_or : Option Bool → List ℕ → Bool
newline_or (Some b) w = b
newline_or None w = appends_newline w

-- The macro of this name appends a newline to its format string: one of the file as its row says,
-- and another one by its name.
abbrev pub newline_of : Scope → List ℕ → Bool
newline_of s w = newline_or (newline_by s.own w) w

-- The same, unless this is the reading, since the macro is another one.
abbrev pub ReadsUnless : Option CallReading → Bool → Bool → List Leaf → Call → CallReading
    → List Finding → Type 0
ReadsUnless (Some q) is_new appended xs c r fs = (r ≡ q) × (fs ≡ [])
ReadsUnless None is_new appended xs c r fs = (args : List Argument)
    × AreArguments xs (c.name + 3) args c.close
    × ReadsBy is_new appended xs c args (index_or is_new xs c.rule args) r fs

-- This is the reading of a call, and these are the findings in it, in a file whose edition is from
-- 2021 on or not.
abbrev pub Reads : Scope → Bool → List Leaf → Call → CallReading → List Finding → Type 0
Reads s is_new xs c r fs =
    ReadsUnless (skipped_reading s c.rule (slice_get xs c.name)) is_new
    (newline_of s (name_at xs c.name)) xs c r fs
