-- Calls with which nothing is wrong. The public rules are in the documentation of `std::fmt`:
-- positional parameters, named parameters, formatting traits, and the grammar of format strings.
use Rattle.std.specs.Prelude.{◌≡◌, ◌⊎◌, ℕ, ◌<◌, Bool, IsTrue, IsSomeAnd, List, length, Some}
use Rattle.std.specs.Prelude.{is_some}
use Rattle.std.specs.List.{All, Any, AllPairs, Contains, slice_get}
use Rattle.rustc_parse_format.specs.Characters.{Text}
use Rattle.rustc_parse_format.specs.Grammar.{Reads}
use Rattle.rustc_parse_format.specs.Types.{Piece, Lit, NextArgument, Format}
use Rattle.placeholder_check.specs.Uses.{Use, ByIndex, ByName, uses}
use Rattle.call_faults.specs.Arguments.{FormatArgument, MayPrecede}
use Rattle.call_faults.specs.Lookups.{is_known}

-- The piece wants a trait that exists. Text wants none.
abbrev pub HasTrait : Piece (Unit {0}) → Type 0
HasTrait (Lit t) = Unit {0}
HasTrait (NextArgument a) = IsTrue (is_known a.format.ty)

-- The use is of one of these arguments, by its index or by its name, or of a captured variable.
abbrev pub IsMet : Bool → List FormatArgument → Use → Type 0
IsMet captures gs (ByIndex n) = n < length gs
IsMet captures gs (ByName w) = IsTrue captures ⊎ Any (λ g. g.name ≡ Some w) gs

-- One of these uses is of the argument g, which has the index i: by the index or by its name.
abbrev pub IsUsed : List Use → ℕ → FormatArgument → Type 0
IsUsed us i g = Contains us (ByIndex i) ⊎ IsSomeAnd g.name (λ w. Contains us (ByName w))

-- Names differ and stand after the arguments without one, the string is in the grammar and asks
-- only for traits that exist, each of its uses is met, and each argument is used.
pub record IsClean (captures : Bool) (gs : List FormatArgument) (text : Text) : Type 0 where
  pub in_order : AllPairs (λ g h. MayPrecede g.name h.name) gs
  pub pieces : List (Piece (Unit {0}))
  pub are_read : Reads Format 0 text pieces
  pub have_traits : All HasTrait pieces
  pub are_met : All (IsMet captures gs) (uses pieces)
  pub are_used : (i : ℕ) (g : FormatArgument) → slice_get gs i ≡ Some g → IsUsed (uses pieces) i g
