-- The values that the placeholders of a call refer to.
use Rattle.std.specs.Prelude.{ℕ, suc, Bool, true, false, if◌then◌else◌, List, [], ◌∷◌, filter}
use Rattle.std.specs.Prelude.{Option, Some, None, option_map}
use Rattle.std.specs.Option.{option_map_or}
use Rattle.std.specs.List.{slice_get}
use Rattle.std.specs.Str.{bytes_eq}
use Rattle.rustc_parse_format.specs.Characters.{Text}
use Rattle.rustc_parse_format.specs.Types.{Count, Is, Name, Param, Star, Implied}
use Rattle.placeholder_check.specs.Uses.{Use, ByIndex, ByName}
use Rattle.call_faults.specs.Arguments.{FormatArgument}
use Rattle.inlined_arguments.specs.Variables.{Argument, variable}

-- A value: a variable, or an argument that is none. An argument that stays keeps its tokens, so it
-- is named by its index among those that stay: of two with the same tokens each stays itself.
pub data Value : Type 0 where
  Variable : Text → Value
  Expression : ℕ → Value

-- The value is no variable.
abbrev pub is_expression : Value → Bool
is_expression (Variable w) = false
is_expression (Expression i) = true

-- An argument as a place for a value: its name, if it has one, and its value.
pub record Slot : Type 0 where
  pub name : Option Text
  pub value : Value

-- The value of an argument after n others that stay.
abbrev pub slot_value : ℕ → Argument → Value
slot_value n a = option_map_or Variable (variable a) (Expression n)

-- The slot of an argument after n others that stay.
abbrev pub slot : ℕ → Argument → Slot
slot n a = record { name = a.name; value = slot_value n a }

-- The slots of these arguments after n others that stay.
abbrev pub slots_from : ℕ → List Argument → List Slot
slots_from n [] = []
slots_from n (a ∷ args) = slot n a
    ∷ slots_from (if is_expression (slot_value n a) then suc n else n) args

-- The slots of a call.
abbrev pub slots : List Argument → List Slot
slots args = slots_from 0 args

-- The slots that stay: those of arguments that are no variables, in their order.
abbrev pub kept_slots : List Slot → List Slot
kept_slots ss = filter (λ s. is_expression s.value) ss

-- A slot as an argument of a call.
abbrev pub slot_argument : Slot → FormatArgument
slot_argument s = record { name = s.name; variable = None }

-- The value of a name after these slots, where o is the one before them: that of the last of these
-- slots with this name. (The names of a call with which nothing is wrong differ.)
abbrev pub value_after : Option Value → List Slot → Text → Option Value
value_after o [] w = o
value_after o (s ∷ ss) w = value_after (if option_map_or (bytes_eq w) s.name false then
    Some s.value else o) ss w

-- The value of a name: that of the slot with this name, or else the variable that it captures.
abbrev pub value_named : List Slot → Text → Value
value_named ss w = option_map_or (λ v. v) (value_after None ss w) (Variable w)

-- The value of an index: that of the slot with this index, if there is one.
abbrev pub value_at : List Slot → ℕ → Option Value
value_at ss n = option_map (λ s. s.value) (slice_get ss n)

-- The value of a use.
abbrev pub value_of : List Slot → Use → Option Value
value_of ss (ByIndex n) = value_at ss n
value_of ss (ByName w) = Some (value_named ss w)

-- A width or a precision: a number, the value of a use, or none.
pub data Amount : Type 0 where
  Number : ℕ → Amount
  ValueOf : Option Value → Amount
  Absent : Amount

abbrev pub amount_of : {A : Type 0} → List Slot → Count A → Amount
amount_of ss (Is n) = Number n
amount_of ss (Name w s) = ValueOf (value_of ss (ByName w))
amount_of ss (Param n) = ValueOf (value_of ss (ByIndex n))
amount_of ss (Star n) = ValueOf (value_of ss (ByIndex n))
amount_of ss Implied = Absent
