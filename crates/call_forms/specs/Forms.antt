-- The fault in the arguments of a call whose format string is not read. The macros are those
-- of the standard library, whose arguments rustc parses as expressions with commas between them.
use Rattle.std.specs.Prelude.{ℕ, ◌+◌, ◌-◌, ◌==◌, ◌&&◌, ◌||◌, not, Bool, true, false, List, [], ◌∷◌}
use Rattle.std.specs.Prelude.{Option, Some, None, is_some, option_map, nat_lt, nat_le, codes}
use Rattle.std.specs.Prelude.{length, map, slice_get, if◌then◌else◌}
use Rattle.std.specs.List.{list_any}
use Rattle.std.specs.Str.{bytes_eq}
use Rattle.rust_tokens.specs.declared.kinds.Kind.{Kind}
use Rattle.rust_tokens.specs.declared.kinds.Kind.TheVariants.{ByteStr, RawByteStr}
use Rattle.rust_trees.specs.Leaves.{Leaf}
use Rattle.format_calls.specs.Rows.{rule_of}
use Rattle.format_calls.specs.Standard.{standard}
use Rattle.format_calls.specs.Strings.{is_string}
use Rattle.format_calls.specs.declared.split.Argument.{Argument}
use Rattle.format_calls.specs.declared.table.Rule.{Rule}
use Rattle.format_calls.specs.declared.table.Rule.TheVariants.{Index, IndexByEdition, FirstLiteral}
use Rattle.format_calls.specs.declared.table.Rule.TheVariants.{Templates}
use Rattle.call_forms.specs.Commas.{expected_at, has_more, is_unknown}
use Rattle.call_forms.specs.Expressions.{has_variable, is_operand, is_path, joined_operand}
use Rattle.call_forms.specs.Operators.{Operator, lacks_left, lacks_operand, operator_at}
use Rattle.call_forms.specs.Operators.{seen_operator}
use Rattle.call_forms.specs.declared.commas.ExpectedTokens.{ExpectedTokens}
use Rattle.call_forms.specs.declared.commas.ExpectedTokens.TheVariants.{Comma}
use Rattle.call_forms.specs.declared.forms.Form.{Form as DeclaredForm}
use Rattle.call_forms.specs.declared.forms.Form.TheVariants.{NoString as NoStringIn}
use Rattle.call_forms.specs.declared.forms.Form.TheVariants.{NoLiteral as NoLiteralIn}
use Rattle.call_forms.specs.declared.forms.Form.TheVariants.{NoComma as NoCommaIn}
use Rattle.call_forms.specs.declared.forms.Form.TheVariants.{NoOperand as NoOperandIn}
use Rattle.call_forms.specs.declared.forms.Form.TheVariants.{NoExpression as NoExpressionIn}

-- A fault in the arguments of a call.
pub data Form : Type 0 where
  -- There is no format string.
  NoString : Form
  -- The format string is no string literal. So many arguments stand after it, and it is a byte
  -- string literal or not.
  NoLiteral : ℕ → Bool → Form
  -- No comma stands before this token, where rustc expects these tokens.
  NoComma : ExpectedTokens → Operator → Form
  -- No operand stands before this operator, with which an argument begins.
  NoOperand : Operator → Form
  -- No expression stands where the argument with this index ends, before the end of the call or a
  -- comma.
  NoExpression : ℕ → Bool → Form

abbrev pub seen_form : DeclaredForm → Form
seen_form NoStringIn = NoString
seen_form (NoLiteralIn n b) = NoLiteral n b
seen_form (NoCommaIn e o) = NoComma e (seen_operator o)
seen_form (NoOperandIn o) = NoOperand (seen_operator o)
seen_form (NoExpressionIn n b) = NoExpression n b

abbrev pub is_nil : List Leaf → Bool
is_nil [] = true
is_nil (x ∷ xs) = false

-- The argument has no token, or an operator lacks an operand.
abbrev pub lacks_expression : List Leaf → Bool
lacks_expression xs = is_nil xs || lacks_operand xs

-- The argument is no expression: it has no token, an operator lacks an operand, or two operands
-- stand next to each other.
abbrev pub is_bad : List Leaf → Bool
is_bad xs = lacks_expression xs || is_some (joined_operand xs)

-- The index of the first argument that is no expression, where k stand before these.
abbrev pub first_bad : ℕ → List (List Leaf) → Option ℕ
first_bad k [] = None
first_bad k (p ∷ ps) = if is_bad p then Some k else first_bad (k + 1) ps

-- The fault of an argument in which an operand stands right after another one, at an index.
abbrev pub joined_form : Bool → List Leaf → Option ℕ → Option Form
joined_form is_string xs None = None
joined_form is_string xs (Some n) =
    if is_string then option_map (λ o. NoComma Comma o) (operator_at xs n) else
    (if list_any is_unknown xs then None else
    option_map (λ o. NoComma (expected_at xs n) o) (operator_at xs n))

-- The fault of the argument with the index k, which is no expression. It should be the format
-- string or not, and the end of the call stands after it or a comma.
unfoldable pub bad_form : ℕ → Bool → Bool → List Leaf → Option Form
bad_form k is_string is_last xs =
    if lacks_left xs then option_map (λ o. NoOperand o) (operator_at xs 0) else
    (if is_some (joined_operand xs) then joined_form is_string xs (joined_operand xs) else
    Some (NoExpression k is_last))

abbrev pub is_byte_string : Kind → Bool
is_byte_string ByteStr = true
is_byte_string RawByteStr = true
is_byte_string k = false

-- The tokens are one byte string literal.
abbrev pub are_bytes : List Leaf → Bool
are_bytes [] = false
are_bytes (x ∷ []) = is_byte_string x.kind
are_bytes (x ∷ y ∷ xs) = false

-- The fault of an argument that is a string literal and more tokens after it.
abbrev pub comma_form : List Leaf → Option Form
comma_form xs = option_map (λ o. NoComma Comma o) (operator_at xs 1)

-- The fault of an argument that should be the format string, where n others stand after it.
-- Only paths and literals are looked at.
abbrev pub literal_form : ℕ → List Leaf → Option Form
literal_form n [] = None
literal_form n (x ∷ xs) = if not (is_string x.kind)
    && (is_operand x && not (list_any (λ y. not (is_path y)) (x ∷ xs)))
    then Some (NoLiteral n (are_bytes (x ∷ xs))) else None

abbrev pub string_form : Bool → ℕ → Option (List Leaf) → Option Form
string_form b n None = if b then Some NoString else None
string_form b n (Some p) = literal_form n p

abbrev pub flag : Option Bool → Bool
flag None = false
flag (Some b) = b

abbrev pub form_at : Bool → ℕ → ℕ → Option (List Leaf) → Option Form
form_at e n k None = None
form_at e n k (Some p) = if nat_lt k n then None else bad_form k (k == n) e p

abbrev pub form_by : Bool → List Bool → ℕ → List (List Leaf) → Option ℕ → Option Form
form_by b es n ps None = string_form b (length ps - (n + 1)) (slice_get ps n)
form_by b es n ps (Some k) = form_at (flag (slice_get es k)) n k (slice_get ps k)

-- All arguments before the one with the index n are expressions, where the first that is none has
-- this index, if there is one.
abbrev pub starts_well : ℕ → Option ℕ → Bool
starts_well n None = true
starts_well n (Some k) = nat_le n k

-- A string literal with more tokens after it comes before all that is wrong after it.
abbrev pub form_with : Bool → List Bool → ℕ → List (List Leaf) → Option ℕ → Option (List Leaf)
    → Option Form
form_with b es n ps o None = form_by b es n ps o
form_with b es n ps o (Some p) =
    if starts_well n o && has_more p then comma_form p else form_by b es n ps o

-- The fault in arguments of which the one with the index n should be the format string. Where
-- it is a fault that there is none, b is true. The end of the call follows those in es that say so.
abbrev pub form_of : Bool → List Bool → ℕ → List (List Leaf) → Option Form
form_of b es n ps = if list_any has_variable ps then None else
    form_with b es n ps (first_bad 0 ps) (slice_get ps n)

-- A macro of this name wants a format string, and has no other rule where no argument is given.
abbrev pub needs_string : List ℕ → Bool
needs_string w = bytes_eq w (codes "format") || (bytes_eq w (codes "format_args")
    || (bytes_eq w (codes "print") || bytes_eq w (codes "eprint")))

-- It is a fault that a call of a macro of this name has no format string, where these are its
-- arguments, and their list ends at a token. `write!` needs the comma after its destination.
abbrev pub lacks_string : List ℕ → ℕ → List Argument → Bool
lacks_string w close [] = needs_string w
lacks_string w close (a ∷ []) = bytes_eq w (codes "write") && not (a.end == close)
lacks_string w close (a ∷ b ∷ bs) = false

-- The index of the argument that should be the format string. Before the edition 2021 it may be any
-- expression for some macros, and templates have rules of their own.
abbrev pub index_of : Bool → Rule → Option ℕ
index_of is_new (Index n) = Some n
index_of is_new (IndexByEdition n) = if is_new then Some n else None
index_of is_new FirstLiteral = None
index_of is_new Templates = None

abbrev pub form_from : Bool → List Bool → List (List Leaf) → Option ℕ → Option Form
form_from b es ps None = None
form_from b es ps (Some n) = form_of b es n ps

abbrev pub form_if : Bool → List ℕ → Rule → Bool → List Bool → List (List Leaf) → Option Form
form_if is_new w r b es ps =
    if is_some (rule_of standard w) then form_from b es ps (index_of is_new r) else None

-- For each argument, whether the end of the call follows it, which is the token `close`.
unfoldable pub ends : ℕ → List Argument → List Bool
ends close args = map (λ a. a.end == close) args

-- The fault in the arguments of a call of a macro of this name, with this rule. Nothing is
-- known of macros that are not those of the standard library.
abbrev pub form_here : Bool → List ℕ → Rule → ℕ → List Argument → List (List Leaf) → Option Form
form_here is_new w r close args ps =
    form_if is_new w r (lacks_string w close args) (ends close args) ps
