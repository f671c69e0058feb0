-- The places of a call that something is said of, and their labels, with texts as bytes.
use Rattle.std.specs.Prelude.{ℕ, Bool, true, false, List}
use Rattle.rustc_parse_format.specs.World.{Place}
use Rattle.text_faults.specs.declared.spots.Spot.{Spot}
use Rattle.text_faults.specs.declared.spots.Spot.TheVariants.{Bytes}

-- A label: where it is, whether the fault is about that place, and its text.
pub record Label : Type 0 where
  pub spot : Spot
  pub is_primary : Bool
  pub text : List ℕ

-- A label of a place that the fault is about.
abbrev pub primary : Spot → List ℕ → Label
primary s t = record { spot = s; is_primary = true; text = t }

-- A label of another place.
abbrev pub secondary : Spot → List ℕ → Label
secondary s t = record { spot = s; is_primary = false; text = t }

-- A range of the literal.
abbrev pub bytes_at : Place → Spot
bytes_at p = Bytes p.0 p.1
