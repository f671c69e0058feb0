-- The argument of a call that is its format string, or the reason why none is read.
use Prim.Native.Char.{code}
use Rattle.std.specs.Prelude.{ℕ, Bool, true, false, not, ◌&&◌, ◌||◌, ◌==◌, ◌+◌, ◌-◌, List, Option}
use Rattle.std.specs.Prelude.{Some, None, Result, Ok, Err, nat_lt, slice_get, length, position}
use Rattle.std.specs.Prelude.{if◌then◌else◌}
use Rattle.rust_tokens.specs.declared.kinds.Kind.{Kind}
use Rattle.rust_tokens.specs.declared.kinds.Kind.TheVariants.{Str, RawStr}
use Rattle.rust_trees.specs.Leaves.{Leaf}
use Rattle.format_calls.specs.declared.split.Argument.{Argument}
use Rattle.format_calls.specs.declared.strings.Reason.{Reason}
use Rattle.format_calls.specs.declared.strings.Reason.TheVariants.{NoArgument, Edition, Variable}
use Rattle.format_calls.specs.declared.strings.Reason.TheVariants.{Suffix}
use Rattle.format_calls.specs.declared.strings.Reason.TheVariants.{Macro, Expression}
use Rattle.format_calls.specs.declared.table.Rule.{Rule}
use Rattle.format_calls.specs.declared.table.Rule.TheVariants.{Index, IndexByEdition, FirstLiteral}
use Rattle.format_calls.specs.declared.table.Rule.TheVariants.{Templates}
use Rattle.format_calls.specs.Marks.{is_mark, is_word}

abbrev pub is_string : Kind → Bool
is_string Str = true
is_string RawStr = true
is_string k = false

-- A string literal that has its end and no suffix.
abbrev pub is_text_leaf : Leaf → Bool
is_text_leaf x = is_string x.kind && (x.is_ended && not x.has_suffix)

abbrev pub is_text_at : Option Leaf → Argument → Bool
is_text_at None a = false
is_text_at (Some x) a = nat_lt a.start a.end && ((a.end - a.start) == 1 && is_text_leaf x)

-- The argument is one string literal.
abbrev pub is_text : List Leaf → Argument → Bool
is_text xs a = is_text_at (slice_get xs a.start) a

abbrev pub reason_at : List Leaf → Option Leaf → ℕ → Reason
reason_at xs None i = Expression
reason_at xs (Some x) i =
    if is_mark (code "$") xs i || is_mark (code "#") xs i then Variable else
    (if is_string x.kind && x.has_suffix then Suffix else
    (if is_word x && is_mark (code "!") xs (i + 1) then Macro else Expression))

-- The reason why an argument is no string literal.
abbrev pub reason_of : List Leaf → Argument → Reason
reason_of xs a = reason_at xs (slice_get xs a.start) a.start

-- The argument begins with a string literal that is all of it, or that `;` follows.
abbrev pub begins_text_at : List Leaf → Option Leaf → Argument → Bool
begins_text_at xs None a = false
begins_text_at xs (Some x) a =
    is_text xs a || (is_text_leaf x && is_mark (code ";") xs (a.start + 1))

abbrev pub begins_text : List Leaf → Argument → Bool
begins_text xs a = begins_text_at xs (slice_get xs a.start) a

-- The index of the first argument that begins with a string literal.
abbrev pub first_text : List Leaf → List Argument → Option ℕ
first_text xs bs = position (λ a. begins_text xs a) bs

-- The argument is the format string by this rule. For macros of slog key-values may follow it.
abbrev pub is_string_by : Rule → List Leaf → Argument → Bool
is_string_by (Index n) xs a = is_text xs a
is_string_by (IndexByEdition n) xs a = is_text xs a
is_string_by FirstLiteral xs a = begins_text xs a
is_string_by Templates xs a = is_text xs a

abbrev pub text_or : Option ℕ → Result ℕ Reason
text_or None = Err Expression
text_or (Some n) = Ok n

abbrev pub argument_or : List Leaf → ℕ → Option Argument → Bool → Result ℕ Reason
argument_or xs n None b = Err NoArgument
argument_or xs n (Some a) b = if b then Err Edition else
    (if is_text xs a then Ok n else Err (reason_of xs a))

-- The index of the argument that is the format string, by the rule. Before the edition 2021, where
-- `is_new` is false, the last argument is none for some. Of several templates it is the first.
abbrev pub format_string : List Leaf → Rule → List Argument → Bool → Result ℕ Reason
format_string xs (Index n) bs is_new = argument_or xs n (slice_get bs n) false
format_string xs (IndexByEdition n) bs is_new =
    argument_or xs n (slice_get bs n) (not is_new && (n + 1) == length bs)
format_string xs FirstLiteral bs is_new = text_or (first_text xs bs)
format_string xs Templates bs is_new = argument_or xs 0 (slice_get bs 0) false
