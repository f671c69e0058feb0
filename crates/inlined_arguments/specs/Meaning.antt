-- The meaning of a call: the parts of what it writes, one after the other. It does not tell how the
-- placeholders refer to the values.
use Rattle.std.specs.Prelude.{List, map, Option}
use Rattle.rustc_parse_format.specs.Characters.{Text}
use Rattle.rustc_parse_format.specs.Types.{Argument, Implied, Piece, Lit, NextArgument, Spec}
use Rattle.rustc_parse_format.specs.Types.{bare_spec}
use Rattle.placeholder_check.specs.Uses.{position_use}
use Rattle.inlined_arguments.specs.Values.{Amount, Slot, Value, amount_of, value_of}

-- A part: text; or a value that is formatted, with a width, a precision and flags. The flags are
-- all else of its specification, with the type, which names a trait.
pub data Part : Type 0 where
  TextPart : Text → Part
  ValuePart : Option Value → Amount → Amount → Spec (Unit {0}) → Part

-- A specification without its places, its width and its precision.
abbrev pub flags : {A : Type 0} → Spec A → Spec (Unit {0})
flags s = record (bare_spec s) { width = Implied; precision = Implied }

-- The part of a placeholder that refers to these slots.
abbrev pub use_part : {A : Type 0} → List Slot → Argument A → Part
use_part ss a = ValuePart (value_of ss (position_use a.position)) (amount_of ss a.format.width)
    (amount_of ss a.format.precision) (flags a.format)

-- The part of a piece.
abbrev pub part : {A : Type 0} → List Slot → Piece A → Part
part ss (Lit t) = TextPart t
part ss (NextArgument a) = use_part ss a

-- The meaning of a call whose format string has these pieces, and whose arguments have these slots.
abbrev pub meaning : {A : Type 0} → List Slot → List (Piece A) → List Part
meaning ss ps = map (part ss) ps
