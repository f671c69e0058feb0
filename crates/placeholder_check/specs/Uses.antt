-- The arguments that the placeholders of a text use. The public rules are in the documentation of
-- `std::fmt`: positional parameters, named parameters, and `n$`, `name$` and `.*` as a width or a
-- precision.
use Rattle.std.specs.Prelude.{ℕ, List, [], ◌∷◌, ◌++◌, Option, Some, None, flat_map}
use Rattle.std.specs.List.{filter_map}
use Rattle.rustc_parse_format.specs.Characters.{Text}
use Rattle.rustc_parse_format.specs.Types.{Position, Implicit, Index, Named, Count, Is, Name, Param}
use Rattle.rustc_parse_format.specs.Types.{Star, Implied, Argument, Piece, Lit, NextArgument}

-- A use of an argument, by its number or by its name.
pub data Use : Type 0 where
  ByIndex : ℕ → Use
  ByName : Text → Use

-- The use of a position.
abbrev pub position_use : Position → Use
position_use (Implicit n) = ByIndex n
position_use (Index n) = ByIndex n
position_use (Named w) = ByName w

-- The use of a width or of a precision, if there is one.
abbrev pub count_uses : {A : Type 0} → Count A → List Use
count_uses (Is n) = []
count_uses (Name w s) = ByName w ∷ []
count_uses (Param n) = ByIndex n ∷ []
count_uses (Star n) = ByIndex n ∷ []
count_uses Implied = []

-- The uses of a placeholder: of its position, then of its width, then of its precision.
abbrev pub argument_uses : {A : Type 0} → Argument A → List Use
argument_uses a = position_use a.position
    ∷ (count_uses a.format.width ++ count_uses a.format.precision)

-- The uses of a piece. Text uses nothing.
abbrev pub piece_uses : {A : Type 0} → Piece A → List Use
piece_uses (Lit t) = []
piece_uses (NextArgument a) = argument_uses a

-- The uses of these pieces, in order.
abbrev pub uses : {A : Type 0} → List (Piece A) → List Use
uses ps = flat_map piece_uses ps

-- The name of a use. None if it is by number.
abbrev pub used_name : Use → Option Text
used_name (ByIndex n) = None
used_name (ByName w) = Some w

-- The names among these uses, in order.
abbrev pub used_names : List Use → List Text
used_names us = filter_map used_name us
