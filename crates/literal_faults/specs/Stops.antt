-- The first place at which a text cannot be read on as the content of an ordinary string literal.
use Rattle.std.specs.Prelude.{◌≡◌, ◌++◌, IsTrue, List, [], ◌∷◌}
use Rattle.rustc_parse_format.specs.Characters.{Text}
use Rattle.rustc_parse_format.specs.LiteralUnits.{LiteralUnit, spelling, is_unit, may_precede}

-- The text t begins with the unit u, and r is left after it.
pub record BeginsUnit (t : Text) (u : LiteralUnit) (r : Text) : Type 0 where
  pub is_formed : IsTrue (is_unit u)
  pub takes_all : IsTrue (may_precede u r)
  pub joins : t ≡ spelling u ++ r

-- The text t begins with these units, one after the other, and r is left after them.
abbrev pub ReadsTo : Text → List LiteralUnit → Text → Type 0
ReadsTo t [] r = t ≡ r
ReadsTo t (u ∷ us) r = (s : Text) × BeginsUnit t u s × ReadsTo s us r

-- The text t begins with units up to the rest r, and r does not begin with a unit.
pub record StopsAt (t r : Text) : Type 0 where
  pub units : List LiteralUnit
  pub reads : ReadsTo t units r
  pub stops : (u : LiteralUnit) (s : Text) → BeginsUnit r u s → ⊥
