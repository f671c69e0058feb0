-- Why a call is left as it is, as far as that is seen without reading its string.
use Prim.Native.Char.{code}
use Rattle.std.specs.Prelude.{ℕ, Bool, false, ◌&&◌, ◌==◌, not, if◌then◌else◌, List, [], ◌∷◌}
use Rattle.std.specs.Prelude.{Option, Some, None}
use Rattle.std.specs.List.{list_any}
use Rattle.rustc_parse_format.specs.Characters.{Text}
use Rattle.inlined_arguments.specs.Variables.{Argument, has_comment, is_variable}
use Rattle.inlined_arguments.specs.declared.call.Obstacle.{Obstacle}
use Rattle.inlined_arguments.specs.declared.call.Obstacle.TheVariants.{Uncounted, NoVariable, Mixed}
use Rattle.inlined_arguments.specs.declared.call.Obstacle.TheVariants.{CapturesNone, Alone}
use Rattle.inlined_arguments.specs.declared.call.Obstacle.TheVariants.{Comment, ConstForm}

-- A call of a macro that takes a format string: the text and the style of that, the bytes of its
-- literal if it is known, whether a newline is appended to the text, and whether it captures
-- variables; the arguments after it, and whether these are all; whether the string is a format
-- string if no argument follows it; and whether a `const fn` may make the call with one argument
-- and the string `{}`.
pub record Call : Type 0 where
  pub text : Text
  pub style : Option ℕ
  pub literal : Option (List ℕ)
  pub appended_newline : Bool
  pub captures_variables : Bool
  pub arguments : List Argument
  pub is_counted : Bool
  pub is_format_alone : Bool
  pub has_const_form : Bool

-- The argument goes, and a comment with it.
abbrev pub goes_with_comment : Argument → Bool
goes_with_comment a = is_variable a && has_comment a

-- One of these arguments is no variable.
abbrev pub has_other : List Argument → Bool
has_other args = list_any (λ a. not (is_variable a)) args

-- The reason in the arguments of a call, the first one of these that holds.
abbrev pub list_condition : Bool → Call → Option Obstacle
list_condition allows_mixed c =
    if not c.is_counted then Some Uncounted
    else (if not (list_any is_variable c.arguments) then Some NoVariable
    else (if not allows_mixed && has_other c.arguments then Some Mixed
    else (if list_any goes_with_comment c.arguments then Some Comment else None)))

-- The text is `{}`.
abbrev pub is_bare : Text → Bool
is_bare [] = false
is_bare (c ∷ []) = false
is_bare (c ∷ d ∷ []) = c == code "{" && d == code "}"
is_bare (c ∷ d ∷ e ∷ t) = false

-- The reason in its macro and its string.
abbrev pub string_condition : Call → Option Obstacle
string_condition c =
    if not c.captures_variables then Some CapturesNone
    else (if not c.is_format_alone && not (has_other c.arguments) then Some Alone
    else (if c.has_const_form && is_bare c.text then Some ConstForm else None))

abbrev pub or_else : Option Obstacle → Option Obstacle → Option Obstacle
or_else None y = y
or_else (Some x) y = Some x

-- The reason that is seen without reading the string.
abbrev pub condition : Bool → Call → Option Obstacle
condition allows_mixed c = or_else (list_condition allows_mixed c) (string_condition c)
