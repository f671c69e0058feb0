-- The texts inside a value of the declared types are UTF-8, as each `str` is.
use Rattle.std.specs.Prelude.{IsUtf8, ⊤}
use Rattle.rustc_parse_format.specs.declared.types.Piece.{Piece}
use Rattle.rustc_parse_format.specs.declared.types.Piece.TheVariants.{Lit, NextArgument}
use Rattle.rustc_parse_format.specs.declared.types.Argument.{Argument}
use Rattle.rustc_parse_format.specs.declared.types.FormatSpec.{FormatSpec}
use Rattle.rustc_parse_format.specs.declared.types.Position.{Position}
use Rattle.rustc_parse_format.specs.declared.types.Position.TheVariants.{ArgumentImplicitlyIs}
use Rattle.rustc_parse_format.specs.declared.types.Position.TheVariants.{ArgumentIs, ArgumentNamed}
use Rattle.rustc_parse_format.specs.declared.types.Count.{Count}
use Rattle.rustc_parse_format.specs.declared.types.Count.TheVariants.{CountIs, CountIsName}
use Rattle.rustc_parse_format.specs.declared.types.Count.TheVariants.{CountIsParam, CountIsStar}
use Rattle.rustc_parse_format.specs.declared.types.Count.TheVariants.{CountImplied}

-- The name in a position, if it has one, is UTF-8.
abbrev pub IsTextInPosition : Position → Type 0
IsTextInPosition (ArgumentImplicitlyIs n) = ⊤
IsTextInPosition (ArgumentIs n) = ⊤
IsTextInPosition (ArgumentNamed w) = IsUtf8 w.now

-- The name in a count, if it has one, is UTF-8.
abbrev pub IsTextInCount : Count → Type 0
IsTextInCount (CountIs n) = ⊤
IsTextInCount (CountIsName w r) = IsUtf8 w.now
IsTextInCount (CountIsParam n) = ⊤
IsTextInCount (CountIsStar n) = ⊤
IsTextInCount CountImplied = ⊤

-- The texts in a specification are UTF-8: the names in its counts, and its type.
pub record IsTextInSpec (s : FormatSpec) : Type 0 where
  pub precision : IsTextInCount s.precision
  pub width : IsTextInCount s.width
  pub ty : IsUtf8 s.ty.now

-- The texts in a placeholder are UTF-8.
pub record IsTextInArgument (a : Argument) : Type 0 where
  pub position : IsTextInPosition a.position
  pub format : IsTextInSpec a.format

-- The texts in a piece are UTF-8.
abbrev pub IsTextInPiece : Piece → Type 0
IsTextInPiece (Lit t) = IsUtf8 t.now
IsTextInPiece (NextArgument b) = IsTextInArgument b.value
