-- The arguments of a call, as placeholders refer to them.
use Rattle.std.specs.Prelude.{ℕ, Bool, not, ◌&&◌, ◌||◌, ◌==◌, ◌-◌, List}
use Rattle.std.specs.Prelude.{Option, Some, None, chars, codes, nat_lt, option_and_then}
use Rattle.std.specs.Prelude.{slice_get, if◌then◌else◌}
use Rattle.std.specs.Str.{bytes_eq}
use Rattle.rustc_parse_format.specs.Characters.{Text}
use Rattle.rust_tokens.specs.declared.kinds.Kind.{Kind}
use Rattle.rust_tokens.specs.declared.kinds.Kind.TheVariants.{Ident, RawIdent}
use Rattle.rust_trees.specs.Leaves.{Leaf}
use Rattle.format_calls.specs.declared.split.Argument.{Argument}
use Rattle.call_faults.specs.Arguments.{FormatArgument}
use Rattle.asm_lint.specs.Names.{name_of, without_raw}

-- A word that is an expression by itself, and no variable.
abbrev pub is_keyword : List ℕ → Bool
is_keyword w = bytes_eq w (codes "_") || (bytes_eq w (codes "break")
    || (bytes_eq w (codes "continue") || (bytes_eq w (codes "false")
    || (bytes_eq w (codes "return") || (bytes_eq w (codes "true") || bytes_eq w (codes "yield"))))))

abbrev pub variable_text : Kind → List ℕ → Option Text
variable_text Ident w = if is_keyword w then None else Some (chars w)
variable_text RawIdent w = Some (without_raw (chars w))
variable_text k w = None

-- The variable that a token is: a word that is no keyword, or `self`, `Self`, `super` or `crate`.
abbrev pub variable : Leaf → Option Text
variable x = variable_text x.kind x.text

-- The variable that an argument without a name is, if it is nothing else.
abbrev pub variable_of : List Leaf → Argument → Option Text
variable_of xs a = if not a.is_named && (nat_lt a.start a.end && (a.end - a.start) == 1)
    then option_and_then variable (slice_get xs a.start) else None

-- An argument, as placeholders refer to it.
abbrev pub given_argument : List Leaf → Argument → FormatArgument
given_argument xs a = record { name = name_of xs a; variable = variable_of xs a }
